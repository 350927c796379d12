-- Two elements side by side as one number.
use Rattle.element_pairs.proofs.Puts.{six-read}
use Rattle.element_pairs.proofs.six_at.Goals as goal

pub returns : goal.returns
returns c = six-read c.two_at-a.ensures c.two_at-b.ensures c.two_at.ensures
