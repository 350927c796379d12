-- `plan::users_from` meets its contract: the loop over the USERs, then END. Its invariant is `UsersGoing`, its measure what is left of the plan. Assumes nothing.
use Prim.Native.Nat.{◌-◌}
use lib.ListN.{length}
use Rattle.plan.proofs.Phases.{UsersGoing}
use Rattle.plan.proofs.users_from.Given as goal

abbrev pub invariant-loop-rntis : goal.invariant-loop-rntis
invariant-loop-rntis l = UsersGoing l.plan l.cell l.frame l.start l.his l.mid l.users l.at l.rntis l.blocks

abbrev pub decreases-loop-rntis : goal.decreases-loop-rntis
decreases-loop-rntis l = length l.plan - l.at
