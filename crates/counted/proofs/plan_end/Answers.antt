-- `counted::plan_end` meets its contract: one law for each return. Assumes nothing.
use native.Mathlib.Omega.{arith}
use Rattle.counted.proofs.Ways.{no_length, plan-short, plan-whole}
use Rattle.counted.proofs.plan_end.Goals as goal

pub returns-then-input-lt2 : goal.returns-then-input-lt2
returns-then-input-lt2 c = no_length c.args.input.now c.if-input-lt2.true

pub overflow_mul-end : goal.overflow_mul-end
overflow_mul-end c = omega (arith, c.from.ensures, c.shared_slice_known-2-1.given 0)

pub overflow_add-end : goal.overflow_add-end
overflow_add-end c = omega (arith, c.from.ensures, c.shared_slice_known-2-1.given 0, c.from-2.ensures, c.shared_slice_known-3-1.given 1)

pub overflow_add-end-2 : goal.overflow_add-end-2
overflow_add-end-2 c = omega (arith, c.from.ensures, c.shared_slice_known-2-1.given 0, c.from-2.ensures, c.shared_slice_known-3-1.given 1)

pub returns-then-input-end : goal.returns-then-input-end
returns-then-input-end c =
    plan-short c.args.input.now _ _ c.from.ensures c.from-2.ensures c.if-input-lt2.false c.if-input-end.true

pub returns-else-input-end : goal.returns-else-input-end
returns-else-input-end c =
    plan-whole c.args.input.now _ _ c.from.ensures c.from-2.ensures c.if-input-lt2.false c.if-input-end.false
