-- The number and PCFICH's groups below it, as the definition adds them.
use native.Mathlib.Omega.{arith}
use Rattle.places.proofs.left_group.Goals as goal

pub returns : goal.returns
returns c =
    omega (arith, c.step.ensures.0, c.step-2.ensures.0, c.step-3.ensures.0, c.step-4.ensures.0)
