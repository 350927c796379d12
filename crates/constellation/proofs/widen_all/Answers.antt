-- Every word of k bits widened. The invariant: the first x are.
use Rattle.constellation.proofs.Quarters.{widened_none, widened-all}
use native.Mathlib.Omega.{arith}
use Rattle.constellation.proofs.widen_all.Goals as goal

pub loop-x-init : goal.loop-x-init
loop-x-init c = (widened_none c.requires.0, omega arith)

pub returns : goal.returns
returns c =
    widened-all c.loop-x.invariant.0 (omega (arith, c.power-n.ensures.0))
