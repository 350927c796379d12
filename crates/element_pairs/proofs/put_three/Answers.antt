-- One element as a number.
use Rattle.element_pairs.proofs.Puts.{one-put}
use Rattle.element_pairs.proofs.put_three.Goals as goal

pub returns : goal.returns
returns c = one-put c.put_bytes.ensures
