-- `payload::users_length` meets its contract. The loop: the bytes so far and those of the users left are the whole. Assumes nothing.
use Prim.Native.Nat.{◌-◌}
use Rattle.payload.proofs.Lengths.{Going}
use Rattle.payload.proofs.users_length.Given as goal

abbrev pub invariant-sections : goal.invariant-sections
invariant-sections l = Going l.plan l.p.cell l.p.frame l.p.users.at l.p.users.count l.bytes l.at (l.p.users.count - l.counter)
