-- `gridpicture::entries` is safe: places of the legend stay below the owner's number. Assumes nothing.
use Prim.Native.Nat.{◌≤◌}
use Rattle.gridpicture.proofs.entries.Given as goal

abbrev pub invariant-loop-n : goal.invariant-loop-n
invariant-loop-n g l = (l.spot.column ≤ l.n) × (l.spot.down ≤ l.n)
