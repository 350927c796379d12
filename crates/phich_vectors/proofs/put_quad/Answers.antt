-- `phich_vectors::put_quad` is safe: the bytes of one of 25 units. Assumes nothing.
use native.Mathlib.Omega.{arith}
use Rattle.phich_vectors.proofs.put_quad.Goals as goal

pub loop-i-init : goal.loop-i-init
loop-i-init c = omega arith

pub offset_bounds-sums-i : goal.offset_bounds-sums-i
offset_bounds-sums-i c = omega (arith, c.loop-i-test.true, c.requires)

pub bounds-sums-i : goal.bounds-sums-i
bounds-sums-i c = omega (arith, c.loop-i-test.true, c.requires)

pub overflow_mul-at : goal.overflow_mul-at
overflow_mul-at c = omega (arith, c.loop-i-test.true, c.requires)

pub overflow_mul-at-in-loop-i : goal.overflow_mul-at-in-loop-i
overflow_mul-at-in-loop-i c = omega (arith, c.loop-i-test.true, c.requires)

pub overflow_add-at : goal.overflow_add-at
overflow_add-at c = omega (arith, c.loop-i-test.true, c.requires)

pub bounds-first-at : goal.bounds-first-at
bounds-first-at c = omega (arith, c.loop-i-test.true, c.requires)

pub overflow_add-first : goal.overflow_add-first
overflow_add-first c = omega (arith, c.loop-i-test.true, c.requires)

pub bounds-first-at-in-loop-i : goal.bounds-first-at-in-loop-i
bounds-first-at-in-loop-i c = omega (arith, c.loop-i-test.true, c.requires)

pub loop-i-preserved : goal.loop-i-preserved
loop-i-preserved c = omega (arith, c.loop-i-test.true, c.requires)
