-- `pdcch_write::pairs_of` meets its contract. Assumes nothing.
use Rattle.pdcch_write.proofs.Places.{pairs-four, pairs-six}
use Rattle.pdcch_write.proofs.pairs_of.Goals as goal

pub returns-then-e-eq1 : goal.returns-then-e-eq1
returns-then-e-eq1 c = pairs-four c.args.entry c.args.six c.from-e.ensures c.if-e-eq1.true

pub returns : goal.returns
returns c = pairs-six c.args.entry c.args.six c.from-e.ensures c.if-e-eq1.false
