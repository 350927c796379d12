-- The range of the user's blocks, times twelve.
use native.Mathlib.Omega.{arith}
use Rattle.layout.specs.Owners.{blocks_have}
use Rattle.layout.proofs.blocks_have.Goals as goal

pub overflow_cast-first : goal.overflow_cast-first
overflow_cast-first c = omega arith

pub overflow_cast-end : goal.overflow_cast-end
overflow_cast-end c = omega arith

pub overflow_add-end : goal.overflow_add-end
overflow_add-end c = omega arith

pub overflow_mul-first : goal.overflow_mul-first
overflow_mul-first c = omega arith

pub overflow_mul-end : goal.overflow_mul-end
overflow_mul-end c = omega arith

pub returns : goal.returns
unfolding blocks_have
returns c = λ n. c.within.ensures
