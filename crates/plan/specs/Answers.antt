-- What the promises cite: an answer as a number; a refusal has its own. Document 01, Refusals: "A refusal returns its number, marked as a refusal so that no
-- count or length is taken for one".
use Rattle.std.specs.Prelude.{ℕ, Bool, true, false}

pub record Answer : Type 0 where
  pub refusal : Bool
  pub value : ℕ

-- a count, a length or a number of something; a refusal with its number
abbrev pub given : ℕ → Answer
given n = record { refusal = false; value = n }

abbrev pub refused_by : ℕ → Answer
refused_by n = record { refusal = true; value = n }
