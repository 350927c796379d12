-- For the tools that show owners: the numbers that a picture or a text shows, place by place. No call of `mapper` cites it.
use Rattle.std.specs.Prelude.{ℕ, ◌+◌, List, length, Result, Err, Err as refused, Ok, Ok as accepted}
use Rattle.base.specs.Tables.{table}
use Rattle.plan.specs.Check.{check_of}
use Rattle.layout.specs.Owners.{owner_number}
use Rattle.layout.specs.Query.{owner_query_of}
use Rattle.layout.specs.declared.Owner.{Owner}
use Rattle.plan.specs.declared.Plan.{Plan}
use Rattle.plan.specs.declared.Refusal.{Refusal}

-- the owner's number; a place that the owner query refuses is shown as idle
abbrev pub shown : Result Owner Refusal → ℕ
shown (Ok o) = owner_number o
shown (Err r) = 513

-- what is shown at subcarrier k of symbol s: what the owner query answers there on port 0
abbrev pub shown_at : List ℕ → ℕ → ℕ → ℕ
shown_at w s k = shown (owner_query_of w s k 0)

-- as many places of symbol s as the row has, from subcarrier first on
abbrev pub shown_from : List ℕ → ℕ → ℕ → List ℕ → List ℕ
shown_from w s first row = table (length row) (λ (i : ℕ). shown_at w s (first + i))

-- the row after the call: a refused plan leaves it
unfoldable pub row_by : Result Plan Refusal → List ℕ → List ℕ → List ℕ
row_by (accepted p) row shows = shows
row_by (refused r) row shows = row

unfoldable pub row_after : List ℕ → ℕ → ℕ → List ℕ → List ℕ
row_after w s first row = row_by (check_of w) row (shown_from w s first row)
