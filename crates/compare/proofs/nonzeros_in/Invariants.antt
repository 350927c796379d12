-- `compare::nonzeros_in` meets its contract: byte after byte. Assumes nothing.
use Prim.Native.Nat.{◌≤◌}
use Rattle.compare.proofs.Nonzeros.{Count}
use Rattle.compare.proofs.nonzeros_in.Given as goal

abbrev pub invariant-loop-b : goal.invariant-loop-b
invariant-loop-b l = (l.n ≤ l.b-index) × Count l.part l.b-index l.n
