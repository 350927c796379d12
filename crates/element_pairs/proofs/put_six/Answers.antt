-- Two elements side by side: four bytes and two.
use Rattle.element_pairs.proofs.Puts.{six-bytes, two-beside}
use Rattle.element_pairs.proofs.put_six.Goals as goal

pub returns : goal.returns
returns c = two-beside (six-bytes c.put_four.ensures c.put_two.ensures)
