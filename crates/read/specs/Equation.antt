-- What the promises cite, and nobody has to believe: read's answer and the payload after it, for any input, by an equation. It goes by the payload of a
-- grid (recovery/specs/Recovery.antt). `Reads` (Read.antt) stands beside it and says the same without that: proofs/Once.antt.
use Rattle.std.specs.Prelude.{if◌then◌else◌, ℕ, Bool, true, false, ◌&&◌, List, [], ◌∷◌, eqb}
use Rattle.plan.specs.Answers.{Answer, given}
use Rattle.plan.specs.Check.{check_of, refused_as, unless_refused}
use Rattle.plan.specs.declared.Refusal.{Refusal}
use Rattle.plan.specs.declared.Refusal.TheVariants.{NoPayload}
use Rattle.plan.specs.declared.Plan.{Plan}
use Rattle.payload.specs.Payload.{unless_lengths}
use Rattle.subframe.specs.Grid.{grid_of}
use Rattle.recovery.specs.Recovery.{payload_in}
use Rattle.build.specs.Build.{pdsch_elements}

-- two lists of bytes are the same
unfoldable pub same : List ℕ → List ℕ → Bool
same [] [] = true
same [] (y ∷ ys) = false
same (x ∷ xs) [] = false
same (x ∷ xs) (y ∷ ys) = eqb x y && same xs ys

-- the payload that a grid gives makes this grid
unfoldable pub is_made : List ℕ → Plan → List ℕ → Bool
is_made w p grid = same (grid_of w p (payload_in w p grid)) grid

-- the plan's refusal, 10, 11, 13, or the count of user elements
unfoldable pub read_of : List ℕ → List ℕ → List ℕ → Answer
read_of w grid payload =
    unless_refused refused_as (λ (p : Plan). unless_lengths refused_as w p grid payload (if is_made w p grid then given (pdsch_elements w p) else refused_as NoPayload)) (check_of w)

-- the grid's payload, or what it was
unfoldable pub payload_after : List ℕ → List ℕ → List ℕ → List ℕ
payload_after w grid payload =
    let kept : Refusal → List ℕ = λ r. payload in
    unless_refused kept (λ (p : Plan). unless_lengths kept w p grid payload (if is_made w p grid then payload_in w p grid else payload)) (check_of w)
