-- The count of held. Assumes nothing.
use native.Mathlib.Omega.{arith}
use Rattle.counts.proofs.KindWays.{holes-few, held_first, held-sixth, held_none}
use Rattle.counts.proofs.held_count.Goals as goal

pub overflow_add-result : goal.overflow_add-result
overflow_add-result c = omega (arith, c.holes.ensures, holes-few c.args.cell)

pub returns-then-frame-eq0 : goal.returns-then-frame-eq0
returns-then-frame-eq0 c = held_first c.args.cell c.args.frame c.if-frame-eq0.true _ c.holes.ensures

pub returns-then-frame-eq5 : goal.returns-then-frame-eq5
returns-then-frame-eq5 c = held-sixth c.args.cell c.args.frame c.if-frame-eq0.false c.if-frame-eq5.true

pub returns : goal.returns
returns c = held_none c.args.cell c.args.frame c.if-frame-eq0.false c.if-frame-eq5.false
