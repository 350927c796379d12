-- `pdcch_compare::pair_at` meets its contract. Two elements as one number. Assumes nothing.
use Rattle.element_pairs.proofs.Puts.{two-read}
use Rattle.pdcch_compare.proofs.pair_at.Goals as goal

pub returns : goal.returns
returns c = two-read c.three_at-a.ensures c.three_at.ensures
