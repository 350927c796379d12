-- `plan::units` meets its contract: a product of two bytes fits. Assumes nothing.
use native.Mathlib.Omega.{arith}
use mathlib.Core.Path.{refl}
use Rattle.plan.specs.Fields.{mapping_units}
use Rattle.plan.proofs.FieldLaws.{bytes-mul}
use Rattle.plan.proofs.units.Goals as goal

pub overflow_mul-result : goal.overflow_mul-result
overflow_mul-result c =
    omega (arith, bytes-mul c.args.c.sixths c.args.c.blocks (omega arith) (omega arith))

pub overflow_add-result : goal.overflow_add-result
overflow_add-result c =
    omega (arith, bytes-mul c.args.c.sixths c.args.c.blocks (omega arith) (omega arith))

pub returns : goal.returns
unfolding mapping_units
returns c = refl
