-- `phich_vectors::draw_set` meets its contract: at most one HI for each draw. Assumes nothing.
use Prim.Native.Nat.{◌≤◌}
use Rattle.phich_vectors.proofs.draw_set.Given as goal

abbrev pub invariant-loop-n : goal.invariant-loop-n
invariant-loop-n l = l.count ≤ l.n
