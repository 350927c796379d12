-- What `build_both` promises: what building two payloads A and B under one plan answers and leaves in the two grids, g for A and h for B, for
-- any plan bytes w, and that the two grids then answer the regulator's second question (demand 3). Document 01, Refusals: the plan's
-- refusal, then "by number: 10 grid not 36×N×S×P bytes; 11 payload length wrong; 12 a spare bit set"; "buffers stay".
use Rattle.std.specs.Prelude.{if◌then◌else◌, ℕ, ◌≡◌, ◌&&◌, List, eqb, length, Ok as accepted}
use Rattle.plan.specs.Answers.{Answer, given}
use Rattle.plan.specs.Check.{check_of, refused_as, unless_refused}
use Rattle.plan.specs.declared.Plan.{Plan}
use Rattle.plan.specs.declared.Refusal.{Refusal}
use Rattle.plan.specs.declared.Refusal.TheVariants.{GridLength, PayloadLength, SpareBit}
use Rattle.payload.specs.Payload.{grid_length, payload_length, spare_clear, AcceptedPayload}
use Rattle.subframe.specs.Grid.{grid_of}
use Rattle.subframe.specs.TwoBuilds.{TwoBuilds}
use Rattle.build.specs.Build.{pdsch_elements}

-- the answer of the call, unless 10 applies to either grid, else 11 to either payload, else 12 to either payload
unfoldable pub unless_both : {R : Type 0} → (Refusal → R) → List ℕ → Plan → List ℕ → List ℕ → List ℕ → List ℕ → R → R
unless_both refusal w p A B g h answer =
    if eqb (length g) (grid_length p) && eqb (length h) (grid_length p)
    then (if eqb (length A) (payload_length w p) && eqb (length B) (payload_length w p)
    then (if spare_clear w p A && spare_clear w p B then answer else refusal SpareBit)
    else refusal PayloadLength)
    else refusal GridLength

-- THE ANSWER: the count of user elements, the same for both, or the refusal
unfoldable pub both_built : List ℕ → List ℕ → List ℕ → List ℕ → List ℕ → Answer
both_built w A B g h = unless_refused refused_as (λ (p : Plan). unless_both refused_as w p A B g h (given (pdsch_elements w p))) (check_of w)

-- THE GRIDS AFTER IT: the first is the plan's and A's, the second the plan's and B's, or both are what they were
unfoldable pub first_after : List ℕ → List ℕ → List ℕ → List ℕ → List ℕ → List ℕ
first_after w A B g h =
    let kept : Refusal → List ℕ = λ r. g in unless_refused kept (λ (p : Plan). unless_both kept w p A B g h (grid_of w p A)) (check_of w)

unfoldable pub second_after : List ℕ → List ℕ → List ℕ → List ℕ → List ℕ → List ℕ
second_after w A B g h =
    let kept : Refusal → List ℕ = λ r. h in unless_refused kept (λ (p : Plan). unless_both kept w p A B g h (grid_of w p B)) (check_of w)

-- DEMAND 3, of what the call leaves in the grids, g' and h'. Whatever the two grids held before (g and h): if the plan check accepts the
-- plan bytes w with plan p, both payloads A and B are accepted under p and both grids have the length that p asks for, then g' and h'
-- stand to each other as every sentence of the demand says (subframe/specs/TwoBuilds.antt).
pub record Separate (w A B g h g' h' : List ℕ) : Type 0 where
  pub apart :
      (p : Plan) → check_of w ≡ accepted p → AcceptedPayload w p A → AcceptedPayload w p B → length g ≡ grid_length p → length h ≡ grid_length p
      → TwoBuilds w p A B g' h'
