-- What the promises cite: the owner query. Document 01, Refusals: "The owner query takes plan, s, k, port; a place has the same owner
-- on every port."
use Rattle.std.specs.Prelude.{if◌then◌else◌, ℕ, Bool, ◌&&◌, List, ltb, Result, Err, Ok}
use Rattle.plan.specs.Answers.{Answer, given}
use Rattle.plan.specs.Check.{check_of, refused_as, unless_refused}
use Rattle.plan.specs.declared.Cell.{Cell}
use Rattle.plan.specs.declared.Refusal.TheVariants.{Outside}
use Rattle.plan.specs.declared.Plan.{Plan}
use Rattle.plan.specs.declared.Refusal.{Refusal}
use Rattle.layout.specs.Owners.{owner_number, symbols, carriers, owner_of}
use Rattle.layout.specs.declared.Owner.{Owner}

-- "8 element query with k, s or port outside the grid": the opposite
unfoldable pub in_grid : Cell → ℕ → ℕ → ℕ → Bool
in_grid c s k port = ltb s (symbols c) && ltb k (carriers c) && ltb port c.ports

-- the plan's refusal first, then 8, else the owner
unfoldable pub owner_query_of : List ℕ → ℕ → ℕ → ℕ → Result Owner Refusal
owner_query_of w s k port =
    unless_refused Err (λ (p : Plan). if in_grid p.cell s k port then Ok (owner_of w p s k) else Err Outside) (check_of w)

-- in numbers: the owner's, which is ours, or the refusal's, document 01's
abbrev pub owner_answer : Result Owner Refusal → Answer
owner_answer (Ok o) = given (owner_number o)
owner_answer (Err r) = refused_as r
