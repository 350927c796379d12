-- `phich_vectors::flips` meets its contract: the bytes below i are not -128. Assumes nothing.
use Prim.Native.Nat.{◌-◌}
use Rattle.phich_vectors.proofs.Seen.{Flips}
use Rattle.phich_vectors.proofs.flips.Given as goal

abbrev pub invariant-loop-i : goal.invariant-loop-i
invariant-loop-i l = Flips l.part l.i
