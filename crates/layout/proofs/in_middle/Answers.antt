-- The two sides of the range.
use native.Mathlib.Omega.{arith}
use Rattle.layout.proofs.Ways.{middle-high, middle-low}
use Rattle.layout.proofs.in_middle.Goals as goal

pub overflow_cast-half : goal.overflow_cast-half
overflow_cast-half c = omega arith

pub overflow_mul-half : goal.overflow_mul-half
overflow_mul-half c = omega arith

pub overflow_add-k : goal.overflow_add-k
overflow_add-k c = omega arith

pub overflow_add-result : goal.overflow_add-result
overflow_add-result c = omega arith

pub returns-then-half-k : goal.returns-then-half-k
returns-then-half-k c = middle-high c.args.cell c.args.d c.args.k c.if-half-k.true

pub returns-else-half-k : goal.returns-else-half-k
returns-else-half-k c = middle-low c.args.cell c.args.d c.args.k c.if-half-k.false
