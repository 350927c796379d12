-- `plan::control_symbols` meets its contract: one symbol more than the CFI at six blocks. Assumes nothing.
use native.Mathlib.Omega.{arith}
use Rattle.plan.proofs.ControlRegion.{region-six, region-other}
use Rattle.plan.proofs.control_symbols.Goals as goal

pub overflow_cast-cfi : goal.overflow_cast-cfi
overflow_cast-cfi c = omega arith

pub overflow_add-result : goal.overflow_add-result
overflow_add-result c = omega arith

pub returns-then-cell-eq6 : goal.returns-then-cell-eq6
returns-then-cell-eq6 c = let a = c.args in region-six a.cell a.frame c.if-cell-eq6.true

pub returns-else-cell-eq6 : goal.returns-else-cell-eq6
returns-else-cell-eq6 c = let a = c.args in region-other a.cell a.frame c.if-cell-eq6.false
