-- Every word of k bits widened. The invariant: the first x are.
use Prim.Native.Nat.{◌≤◌}
use Rattle.constellation.specs.Entries.{Widened}
use Rattle.constellation.proofs.widen_all.Given as goal

abbrev pub invariant-loop-x : goal.invariant-loop-x
invariant-loop-x l = Widened l.k l.byte l.x l.t × (l.x ≤ l.n)
