-- For the inner contracts only: where the plan of an input ends; none where the input is cut off.
use Rattle.std.specs.Prelude.{ℕ, ◌≤◌, ◌≡◌, true, ◌||◌, List, ltb, length, Option, Some, None}
use Rattle.counted.specs.Gridcount.{plan_end}

abbrev pub PlanEnd : List ℕ → Option ℕ → Type 0
PlanEnd x None = ltb (length x) 2 || ltb (length x) (plan_end x) ≡ true
PlanEnd x (Some end) = (end ≡ plan_end x) × (end ≤ length x)
