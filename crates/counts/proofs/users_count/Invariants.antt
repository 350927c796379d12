-- All users' count. The loop's invariant: n and the counts of the users left are the count of all. The measure is how many are left. Assumes nothing.
use Prim.Native.Nat.{◌+◌, ◌-◌}
use mathlib.Core.Path.{◌≡◌}
use lib.ListN.{drop}
use Rattle.plan.specs.CommandLists.{users_from}
use Rattle.counts.specs.Users.{all_elements, users_elements}
use Rattle.counts.proofs.users_count.Given as goal

abbrev pub invariant-loop : goal.invariant-loop
invariant-loop l = l.n + all_elements l.p.cell l.p.frame (users_from (drop l.at l.plan) (l.p.users.count - l.counter)) ≡ users_elements l.plan l.p
