-- The users not yet looked at give what all of them give.
use Prim.Native.Nat.{ℕ, ◌-◌, ◌≤◌}
use mathlib.Core.Path.{◌≡◌}
use lib.ListN.{drop}
use Rattle.plan.specs.CommandLists.{users_from}
use Rattle.layout.specs.Chain.{user_from}
use Rattle.layout.proofs.user_from.Given as goal

abbrev pub invariant-loop-i : goal.invariant-loop-i
invariant-loop-i l =
    (n : ℕ) → user_from l.i (users_from (drop l.at l.plan) (l.count - l.i)) n l.k ≡ user_from 0 (users_from (drop l.start l.plan) l.count) n l.k
