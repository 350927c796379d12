-- One law for each return.
use mathlib.Core.Path.{sym}
use Rattle.layout.proofs.GroupShape.{quad-normal, quad-extended}
use Rattle.layout.proofs.quad_symbol.Goals as goal

pub returns-then-cell-eq1 : goal.returns-then-cell-eq1
returns-then-cell-eq1 c = sym (quad-extended c.args.cell c.args.i c.if-cell-eq1.true)

pub returns-else-cell-eq1 : goal.returns-else-cell-eq1
returns-else-cell-eq1 c = sym (quad-normal c.args.cell c.args.i c.if-cell-eq1.false)
