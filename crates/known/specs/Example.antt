-- What the witness cites: document 01's example of gridcount, a plan that the plan check accepts, its counts, and a payload accepted
-- under it. So no premise of the theorems is empty.
use Rattle.std.specs.Prelude.{ℕ, ◌≡◌, List, [], ◌∷◌, ◌++◌, Result, Ok as accepted}
use Rattle.base.specs.Tables.{table}
use Rattle.plan.specs.Check.{check_of}
use Rattle.plan.specs.declared.Plan.{Plan}
use Rattle.counts.specs.Counts.{kinds, kind_count}
use Rattle.payload.specs.Payload.{grid_length, AcceptedPayload}
use Rattle.counted.specs.Gridcount.{gridcount_of}
use Rattle.plan.specs.declared.Refusal.{Refusal}

-- "plan 10 0000 0F 00 01 01 11 0000 01 01 20 00 00 30 0001 02 00 0F 00"
abbrev pub example : List ℕ
example = 0x10 ∷ 0 ∷ 0 ∷ 0x0F ∷ 0 ∷ 1 ∷ 1 ∷ 0x11 ∷ 0 ∷ 0 ∷ 1 ∷ 1 ∷ 0x20 ∷ 0 ∷ 0 ∷ 0x30 ∷ 0 ∷ 1 ∷ 2 ∷ 0 ∷ 0x0F ∷ 0 ∷ []

abbrev pub example_plan : Plan
example_plan =
    record {
      cell = record { identity = 0; blocks = 15; prefix = 0; ports = 1; sixths = 1; duration = 0 };
      frame = record { number = 0; subframe = 1; cfi = 1 };
      his = record { at = 12; count = 1 };
      users = record { at = 15; count = 1 };
    }

-- "With f = 0, HI removed and PBCH added"
abbrev pub broadcast : List ℕ
broadcast = 0x10 ∷ 0 ∷ 0 ∷ 0x0F ∷ 0 ∷ 1 ∷ 1 ∷ 0x11 ∷ 0 ∷ 0 ∷ 0 ∷ 1 ∷ 0x30 ∷ 0 ∷ 1 ∷ 2 ∷ 0 ∷ 0x0F ∷ 0 ∷ []

abbrev pub broadcast_plan : Plan
broadcast_plan =
    record {
      cell = record { identity = 0; blocks = 15; prefix = 0; ports = 1; sixths = 1; duration = 0 };
      frame = record { number = 0; subframe = 0; cfi = 1 };
      his = record { at = 12; count = 0 };
      users = record { at = 12; count = 1 };
    }

-- "then 564 zero bytes": n of them
abbrev pub zeros : ℕ → List ℕ
zeros n = table n (λ (i : ℕ). 0)

-- the counts of the lines that it prints: CRS, PSS, SSS, PBCH, PCFICH, PHICH, PDSCH, held, idle
abbrev pub example_counts : List ℕ
example_counts = 120 ∷ 0 ∷ 0 ∷ 0 ∷ 16 ∷ 12 ∷ 2250 ∷ 0 ∷ 122 ∷ []

abbrev pub example_lines : Result (List ℕ) Refusal
example_lines = accepted example_counts

-- and for the plan with f = 0
abbrev pub broadcast_counts : List ℕ
broadcast_counts = 120 ∷ 62 ∷ 62 ∷ 240 ∷ 16 ∷ 12 ∷ 1830 ∷ 56 ∷ 122 ∷ []

abbrev pub broadcast_lines : Result (List ℕ) Refusal
broadcast_lines = accepted broadcast_counts

pub record Example : Type 0 where
  pub plan : check_of example ≡ accepted example_plan
  pub counts : table kinds (kind_count example example_plan) ≡ example_counts
  pub payload : AcceptedPayload example example_plan (zeros 564)
  pub grid : grid_length example_plan ≡ 7560
  -- "Input 00 16, plan .., then 564 zero bytes prints"
  pub lines : gridcount_of (0 ∷ 0x16 ∷ (example ++ zeros 564)) ≡ example_lines
  -- "With f = 0, HI removed and PBCH added, PDSCH is 1830, held 56."
  pub broadcast-plan : check_of broadcast ≡ accepted broadcast_plan
  pub broadcast-lines : gridcount_of (0 ∷ 0x13 ∷ (broadcast ++ zeros 518)) ≡ broadcast_lines
  pub broadcast-pdsch : kind_count broadcast broadcast_plan 6 ≡ 1830
  pub broadcast-held : kind_count broadcast broadcast_plan 7 ≡ 56
  -- two payloads under it, which differ in PBCH's first bit
  pub broadcast-payload : AcceptedPayload broadcast broadcast_plan (zeros 518)
  pub other-payload : AcceptedPayload broadcast broadcast_plan (128 ∷ zeros 517)
