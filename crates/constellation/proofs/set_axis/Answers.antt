-- The bits of every level. The invariant: the first x entries are those of their levels.
use Prim.Native.Nat.{◌/◌}
use mathlib.Core.Path.{ap, ◌∙◌}
use native.Mathlib.Omega.{arith}
use Rattle.constellation.specs.Axis.{axis_of}
use Rattle.constellation.proofs.Axes.{axis-none, axis-more, axis-all}
use Rattle.constellation.proofs.set_axis.Goals as goal

pub loop-x-init : goal.loop-x-init
loop-x-init c = (axis-none (c.args.q / 2) c.requires.0, omega arith)

pub loop-x-preserved : goal.loop-x-preserved
loop-x-preserved c =
    let e = c.axis_bits.ensures ∙ ap (axis_of (c.args.q / 2)) c.byte_from.ensures.0 in
    (axis-more c.loop-x.invariant.0 c.loop-x-test.true e, omega arith)

pub returns : goal.returns
returns c = axis-all c.loop-x.invariant.0 (omega arith)
