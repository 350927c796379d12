-- `payload::users_clear` meets its contract. The loop: the answer for the users left is the answer for all. Assumes nothing.
use Prim.Native.Nat.{◌-◌}
use Rattle.payload.proofs.Spare.{Clearing}
use Rattle.payload.proofs.users_clear.Given as goal

abbrev pub invariant-loop : goal.invariant-loop
invariant-loop l = Clearing l.plan l.p.cell l.p.frame l.p.users.at l.p.users.count l.payload l.first l.byte l.at (l.p.users.count - l.counter)
