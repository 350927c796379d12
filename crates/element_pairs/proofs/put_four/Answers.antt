-- Four bytes, two and two.
use Rattle.element_pairs.proofs.Puts.{four_bytes}
use Rattle.element_pairs.proofs.put_four.Goals as goal

pub returns : goal.returns
returns c = four_bytes c.put_two.ensures c.put_two-2.ensures
