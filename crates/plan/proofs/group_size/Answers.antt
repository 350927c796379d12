-- `plan::group_size` meets its contract: one law for each return. Assumes nothing.
use Rattle.plan.proofs.ControlElements.{size-first, size-second, size-few-ports, size-fourth, size-normal, size-other}
use Rattle.plan.proofs.group_size.Goals as goal

pub returns-then-s-eq0 : goal.returns-then-s-eq0
returns-then-s-eq0 c = size-first c.args.cell c.args.s c.if-s-eq0.true

pub returns-then-cell-eq4 : goal.returns-then-cell-eq4
returns-then-cell-eq4 c = size-second c.args.cell c.args.s c.if-s-eq1.true c.if-cell-eq4.true

pub returns-else-cell-eq4 : goal.returns-else-cell-eq4
returns-else-cell-eq4 c = size-few-ports c.args.cell c.args.s c.if-s-eq1.true c.if-cell-eq4.false

pub returns-then-cell-eq1 : goal.returns-then-cell-eq1
returns-then-cell-eq1 c = size-fourth c.args.cell c.args.s c.if-s-eq3.true c.if-cell-eq1.true

pub returns-else-cell-eq1 : goal.returns-else-cell-eq1
returns-else-cell-eq1 c = size-normal c.args.cell c.args.s c.if-s-eq3.true c.if-cell-eq1.false

pub returns : goal.returns
returns c = size-other c.args.cell c.args.s c.if-s-eq0.false c.if-s-eq1.false c.if-s-eq3.false
