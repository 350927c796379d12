-- `mapper::minus` meets its contract: the number fits, and so does minus it. Assumes nothing.
use native.Mathlib.Omega.{arith}
use Rattle.mapper.proofs.Numbers.{negated_fits, negated-is}
use Rattle.mapper.proofs.minus.Goals as goal

pub overflow_sub-result : goal.overflow_sub-result
overflow_sub-result c = negated_fits c.from.result (omega (arith, c.from.type_inv))

pub returns : goal.returns
returns c = negated-is c.from.result (omega (arith, c.from.type_inv)) _ c.from.ensures
