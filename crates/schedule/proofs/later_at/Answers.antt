-- `schedule::later_at` meets its contract: a case for each channel. Assumes nothing.
use mathlib.Core.Path.{sym, ap}
use native.Mathlib.Omega.{arith}
use Rattle.schedule.specs.Schedule.{later_at}
use Rattle.schedule.proofs.Steps.{unit-few, unit-found, user-found}
use Rattle.schedule.proofs.later_at.Goals as goal

pub returns-then-n-units : goal.returns-then-n-units
returns-then-n-units c = unit-found c.requires.0 c.args.n c.units.ensures (omega (arith, c.in_default.in_default-own.rest)) c.if-n-units.true

pub overflow_cast-result : goal.overflow_cast-result
overflow_cast-result c = omega (arith, unit-few c.requires.0 c.args.n c.units.ensures c.if-n-units.true)

pub returns-in-0 : goal.returns-in-0
unfolding later_at
returns-in-0 c = sym (ap (later_at c.args.plan.now c.args.p) c.in-0.is)

pub returns-in-1 : goal.returns-in-1
unfolding later_at
returns-in-1 c = sym (ap (later_at c.args.plan.now c.args.p) c.in-1.is)

pub returns-in-2 : goal.returns-in-2
unfolding later_at
returns-in-2 c = sym (ap (later_at c.args.plan.now c.args.p) c.in-2.is)

pub returns-in-3 : goal.returns-in-3
unfolding later_at
returns-in-3 c = sym (ap (later_at c.args.plan.now c.args.p) c.in-3.is)

pub returns-else-n-units : goal.returns-else-n-units
returns-else-n-units c =
    user-found c.requires.0 c.args.n c.requires.1 _ c.units.ensures (omega (arith, c.in_default.in_default-own.rest)) c.if-n-units.false c.user_at.ensures
