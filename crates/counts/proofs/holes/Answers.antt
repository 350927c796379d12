-- The places that PBCH skips for absent ports. Assumes nothing.
use Rattle.counts.proofs.KindWays.{holes-extended, holes-normal, holes-two, holes-none}
use Rattle.counts.proofs.holes.Goals as goal

pub returns-then-cell-eq1-2 : goal.returns-then-cell-eq1-2
returns-then-cell-eq1-2 c = holes-extended c.args.cell c.if-cell-eq1.true c.if-cell-eq1-2.true

pub returns-then-cell-eq1 : goal.returns-then-cell-eq1
returns-then-cell-eq1 c = holes-normal c.args.cell c.if-cell-eq1.true c.if-cell-eq1-2.false

pub returns-then-cell-eq2 : goal.returns-then-cell-eq2
returns-then-cell-eq2 c = holes-two c.args.cell c.if-cell-eq1.false c.if-cell-eq2.true

pub returns : goal.returns
returns c = holes-none c.args.cell c.if-cell-eq1.false c.if-cell-eq2.false
