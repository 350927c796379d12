-- What the promises cite: gridcount's answer. Document 01, Known elements: "The program gridcount reads a two-byte plan length, plan,
-- payload, builds no grid, and prints one line per owner kind, name and element count (ports not multiplied), or "refused" and the
-- number: the plan's, 11 or 12; an input without both length bytes, or with a plan shorter than they say, is 1 before any other check."
use Rattle.std.specs.Prelude.{if◌then◌else◌, ℕ, ◌+◌, ◌-◌, ◌*◌, ◌||◌, List, eqb, ltb, length, get_or, take, drop, Result, Ok, Err}
use Rattle.base.specs.Tables.{table}
use Rattle.plan.specs.Check.{refusal_number, check_of, unless_refused}
use Rattle.plan.specs.declared.Plan.{Plan}
use Rattle.plan.specs.declared.Refusal.{Refusal}
use Rattle.plan.specs.declared.Refusal.TheVariants.{Unreadable, PayloadLength, SpareBit}
use Rattle.counts.specs.Counts.{kinds, kind_count}
use Rattle.payload.specs.Payload.{payload_length, spare_clear}

-- ---- the answer in numbers: "refused" and the number, or the lines' counts; refusal 0 says that it is not refused, no refusal has this number
pub record Numbers : Type 0 where
  pub refusal : ℕ
  pub counts : List ℕ

abbrev pub numbers_of : Result (List ℕ) Refusal → Numbers
numbers_of (Ok counts) = record { refusal = 0; counts = counts }
numbers_of (Err r) = record { refusal = refusal_number r; counts = table kinds (λ (j : ℕ). 0) }

-- ---- the answer by the input
-- the lines' counts, in their order
abbrev pub lines_of : List ℕ → Plan → Result (List ℕ) Refusal
lines_of w p = Ok (table kinds (kind_count w p))

-- 11 and 12, of the payload
unfoldable pub accepted_with : List ℕ → Plan → List ℕ → Result (List ℕ) Refusal
accepted_with w p payload =
    if eqb (length payload) (payload_length w p)
    then (if spare_clear w p payload then lines_of w p else Err SpareBit)
    else Err PayloadLength

-- the plan's refusal first
unfoldable pub counted_of : List ℕ → List ℕ → Result (List ℕ) Refusal
counted_of w payload = unless_refused Err (λ (p : Plan). accepted_with w p payload) (check_of w)

-- where the plan ends: after the two length bytes, big-endian, and as many as they say
abbrev pub plan_end : List ℕ → ℕ
plan_end input = 2 + (get_or input 0 0 * 256 + get_or input 1 0)

unfoldable pub gridcount_of : List ℕ → Result (List ℕ) Refusal
gridcount_of input =
    if ltb (length input) 2 || ltb (length input) (plan_end input) then Err Unreadable
    else counted_of (take (plan_end input - 2) (drop 2 input)) (drop (plan_end input) input)

abbrev pub numbers_by : List ℕ → Numbers
numbers_by input = numbers_of (gridcount_of input)
