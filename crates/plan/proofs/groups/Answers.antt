-- `plan::groups` meets its contract: twice the units with the extended prefix. Assumes nothing.
use native.Mathlib.Omega.{arith}
use Rattle.plan.proofs.FieldLaws.{units-fit, groups-extended, groups-normal}
use Rattle.plan.proofs.groups.Goals as goal

pub overflow_mul-result : goal.overflow_mul-result
overflow_mul-result c = omega (arith, c.units.ensures, units-fit c.args.c (omega arith) (omega arith))

pub returns-then-c-eq1 : goal.returns-then-c-eq1
returns-then-c-eq1 c = groups-extended c.args.c _ c.units.ensures c.if-c-eq1.true

pub returns-else-c-eq1 : goal.returns-else-c-eq1
returns-else-c-eq1 c = groups-normal c.args.c _ c.units-else-c-eq1.ensures c.if-c-eq1.false
