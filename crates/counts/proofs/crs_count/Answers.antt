-- The count of the reference signals. Assumes nothing.
use Rattle.counts.proofs.KindWays.{crs-one, crs-two, crs-four}
use Rattle.counts.proofs.crs_count.Goals as goal

pub returns-then-cell-eq1 : goal.returns-then-cell-eq1
returns-then-cell-eq1 c = crs-one c.args.cell c.if-cell-eq1.true

pub returns-then-cell-eq2 : goal.returns-then-cell-eq2
returns-then-cell-eq2 c = crs-two c.args.cell c.if-cell-eq1.false c.if-cell-eq2.true

pub returns : goal.returns
returns c = crs-four c.args.cell c.if-cell-eq1.false c.if-cell-eq2.false
