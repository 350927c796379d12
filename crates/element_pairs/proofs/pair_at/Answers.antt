-- Two elements that are not side by side, each as a number.
use Rattle.element_pairs.proofs.Puts.{two-read}
use Rattle.element_pairs.proofs.pair_at.Goals as goal

pub returns : goal.returns
returns g c = two-read c.three_at-a.ensures c.three_at.ensures
