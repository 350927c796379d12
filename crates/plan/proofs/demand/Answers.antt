-- `plan::demand` meets its contract: the cause, or the rest. Assumes nothing.
use mathlib.Core.Path.{refl}
use Rattle.plan.proofs.demand.Goals as goal

pub returns-then-test : goal.returns-then-test
returns-then-test c = rw c.if-test.true refl

pub returns-else-test : goal.returns-else-test
returns-else-test c = rw c.if-test.false refl
