-- `gridpicture::runs` is safe and ends: the measure is what is left of the row. Assumes nothing.
use Prim.Native.Nat.{◌-◌, ◌≤◌}
use Rattle.gridpicture.proofs.runs.Given as goal

abbrev pub invariant-loop-at : goal.invariant-loop-at
invariant-loop-at g l = l.at ≤ l.n

abbrev pub decreases-loop-at : goal.decreases-loop-at
decreases-loop-at g l = l.n - l.at
