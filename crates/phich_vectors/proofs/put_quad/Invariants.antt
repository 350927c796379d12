-- `phich_vectors::put_quad` is safe: the bytes of one of 25 units. Assumes nothing.
use Prim.Native.Nat.{◌-◌, ◌≤◌}
use Rattle.phich_vectors.proofs.put_quad.Given as goal

abbrev pub invariant-loop-i : goal.invariant-loop-i
invariant-loop-i l = l.i ≤ 4
