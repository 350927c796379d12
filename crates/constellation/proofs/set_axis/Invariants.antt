-- The bits of every level. The invariant: the first entries are those of their levels.
use Prim.Native.Nat.{◌/◌, ◌≤◌}
use Rattle.constellation.specs.Axis.{AxisEntries}
use Rattle.constellation.proofs.set_axis.Given as goal

abbrev pub invariant-loop-x : goal.invariant-loop-x
invariant-loop-x l = AxisEntries (l.q / 2) l.x l.d × (l.x ≤ 32)
