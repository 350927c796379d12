-- The quads not yet looked at name the unit that all of them name.
use Prim.Native.Nat.{◌≤◌}
use mathlib.Core.Path.{◌≡◌}
use Rattle.layout.specs.Chain.{unit_at}
use Rattle.layout.proofs.unit_in.Given as goal

abbrev pub invariant-loop-i : goal.invariant-loop-i
invariant-loop-i l = (l.i ≤ 3) × (unit_at l.cell l.s l.d l.i ≡ unit_at l.cell l.s l.d 3)
