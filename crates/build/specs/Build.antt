-- What the promises cite: what build answers and what it leaves in the grid, for any plan bytes w, payload and grid. Document 01,
-- Refusals: the plan's refusal, then 10, 11, 12; "A refusal returns its number .. and buffers stay. Build and read return the count of
-- user elements, ports not multiplied".
use Rattle.std.specs.Prelude.{ℕ, List}
use Rattle.plan.specs.Answers.{Answer, given}
use Rattle.plan.specs.Check.{check_of, refused_as, unless_refused}
use Rattle.plan.specs.declared.Refusal.{Refusal}
use Rattle.plan.specs.declared.Plan.{Plan}
use Rattle.counts.specs.Counts.{kind_count}
use Rattle.payload.specs.Payload.{unless_buffers}
use Rattle.subframe.specs.Grid.{grid_of}

-- the count of user elements, all users': kind 6, gridcount's line PDSCH
abbrev pub pdsch_elements : List ℕ → Plan → ℕ
pdsch_elements w p = kind_count w p 6

-- THE ANSWER, in document 01's numbers
unfoldable pub built_of : List ℕ → List ℕ → List ℕ → Answer
built_of w payload grid = unless_refused refused_as (λ (p : Plan). unless_buffers refused_as w p grid payload (given (pdsch_elements w p))) (check_of w)

-- THE GRID AFTER IT: the plan's and the payload's, or what it was
unfoldable pub grid_after : List ℕ → List ℕ → List ℕ → List ℕ
grid_after w payload grid =
    let kept : Refusal → List ℕ = λ r. grid in
    unless_refused kept (λ (p : Plan). unless_buffers kept w p grid payload (grid_of w p payload)) (check_of w)
