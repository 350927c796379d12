-- `phich_vectors::ready` meets its contract: k HIs are known. Assumes nothing.
use Prim.Native.Nat.{◌-◌}
use Rattle.phich_vectors.proofs.Seen.{Known}
use Rattle.phich_vectors.proofs.ready.Given as goal

abbrev pub invariant-loop-k : goal.invariant-loop-k
invariant-loop-k l = Known l.l l.plan l.count l.from l.k
