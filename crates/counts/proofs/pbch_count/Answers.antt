-- The count of PBCH. Assumes nothing.
use Rattle.counts.proofs.KindWays.{pbch-extended, pbch-normal, pbch-none}
use Rattle.counts.proofs.pbch_count.Goals as goal

pub returns-then-cell-eq1 : goal.returns-then-cell-eq1
returns-then-cell-eq1 c = pbch-extended c.args.cell c.args.frame c.if-frame-eq0.true c.if-cell-eq1.true

pub returns-then-frame-eq0 : goal.returns-then-frame-eq0
returns-then-frame-eq0 c = pbch-normal c.args.cell c.args.frame c.if-frame-eq0.true c.if-cell-eq1.false

pub returns : goal.returns
returns c = pbch-none c.args.cell c.args.frame c.if-frame-eq0.false
