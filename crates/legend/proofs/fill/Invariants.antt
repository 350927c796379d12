-- `legend::fill` meets its contract: place after place. Assumes nothing.
use Prim.Native.Nat.{ℕ, ◌+◌, ◌≤◌, ◌<◌}
use mathlib.Core.Path.{◌≡◌}
use lib.ListN.{length, get_or}
use Rattle.legend.specs.Shown.{shown_at}
use Rattle.legend.proofs.fill.Given as goal

abbrev pub invariant-loop-i : goal.invariant-loop-i
invariant-loop-i l = (l.i ≤ length l.initial.row) × (length l.row ≡ length l.initial.row) × ((j : ℕ) → j < l.i → get_or l.row j 0 ≡ shown_at l.plan l.s (l.first + j))
