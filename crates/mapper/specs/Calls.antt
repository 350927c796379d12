-- What the promises cite: the public calls' answers in numbers, by the input, where no other crate has them, and the numbers that the functions for C
-- answer with: a number from 0 on, or minus the refusal's number.
use Rattle.std.specs.Prelude.{if◌then◌else◌, ℕ, List, [], ◌∷◌, ltb, ℤ, pos, neg_ℤ, get_or, Option, Some, None, Result, Ok as accepted, Err as refused}
use Rattle.std.specs.Float.{binary32}
use Rattle.std.specs.Float.Ieee.{to_bits}
use Rattle.plan.specs.Answers.{Answer, given}
use Rattle.plan.specs.Check.{check_of, refused_as, unless_refused}
use Rattle.plan.specs.declared.Refusal.TheVariants.{NoElement}
use Rattle.plan.specs.declared.Plan.{Plan}
use Rattle.plan.specs.declared.Refusal.{Refusal}
use Rattle.layout.specs.Query.{owner_query_of, owner_answer}
use Rattle.counts.specs.Counts.{kinds, kind_count}
use Rattle.payload.specs.Payload.{grid_length, payload_length}
use Rattle.sample.specs.Answer.{sample_of}
use Rattle.sample.specs.declared.Sample.{Sample}
use Rattle.sample.specs.declared.Sample.TheVariants.{Silence, Phase, At}

-- ---- a number of an accepted plan, or the plan's refusal
abbrev pub answer_with : (Plan → ℕ) → Result Plan Refusal → Answer
answer_with f a = unless_refused refused_as (λ (p : Plan). given (f p)) a

-- the length that refusal 10 asks of a grid, "grid not 36×N×S×P bytes"
unfoldable pub grid_length_of : List ℕ → Answer
grid_length_of w = answer_with grid_length (check_of w)

-- the bytes of all sections
unfoldable pub payload_length_of : List ℕ → Answer
payload_length_of w = answer_with (payload_length w) (check_of w)

-- the elements of a kind, in the order of gridcount's lines from 0 on; a kind beyond them has none
abbrev pub kind_elements : List ℕ → ℕ → Plan → ℕ
kind_elements w kind p = if ltb kind kinds then kind_count w p kind else 0

unfoldable pub kind_count_of : List ℕ → ℕ → Answer
kind_count_of w kind = answer_with (kind_elements w kind) (check_of w)

-- ---- a sample's three numbers: its kind (0 silence, 1 phase, 2 a pair of f32), the phase or the bits of the f32 of I, the bits of the f32 of J
abbrev pub sample_numbers : Sample → List ℕ
sample_numbers Silence = 0 ∷ 0 ∷ 0 ∷ []
sample_numbers (Phase x) = 1 ∷ x ∷ 0 ∷ []
sample_numbers (At p) = 2 ∷ to_bits binary32 p.re ∷ to_bits binary32 p.im ∷ []

-- ---- the numbers of the calls' answers: an accepted plan is 0
abbrev pub checked_answer : Result Plan Refusal → Answer
checked_answer (accepted p) = given 0
checked_answer (refused r) = refused_as r

abbrev pub sample_answer : ℕ → Option Sample → Answer
sample_answer n (Some s) = given (get_or (sample_numbers s) n 0)
sample_answer n None = refused_as NoElement

-- ---- and of the calls, by the input: the plan check's, the owner query's, number n of a sample's three
abbrev pub check_answer_of : List ℕ → Answer
check_answer_of w = checked_answer (check_of w)

abbrev pub owner_answer_of : List ℕ → ℕ → ℕ → ℕ → Answer
owner_answer_of w s k port = owner_answer (owner_query_of w s k port)

abbrev pub sample_answer_of : ℕ → ℕ → ℕ → ℕ → Answer
sample_answer_of n b i j = sample_answer n (sample_of b i j)

-- ---- for C: the number itself, or minus the refusal's
unfoldable pub in_c : Answer → ℤ
in_c a = if a.refusal then neg_ℤ (pos a.value) else pos a.value
