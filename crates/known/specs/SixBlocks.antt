-- What the witness of document 02's #102 cites: a plan of six blocks that the plan check accepts, its counts, and two payloads accepted
-- under it, so that the theorems' premises are met there too. It is a setting that leaves a user the fewest elements.
use Rattle.std.specs.Prelude.{ℕ, ◌≡◌, List, [], ◌∷◌, Ok as accepted}
use Rattle.base.specs.Tables.{table}
use Rattle.plan.specs.Check.{check_of, verdict_of}
use Rattle.plan.specs.declared.Plan.{Plan}
use Rattle.counts.specs.Counts.{kinds, kind_count}
use Rattle.payload.specs.Payload.{AcceptedPayload}
use Rattle.known.specs.Example.{zeros}

-- CELL with N, the extended prefix, one port and N_g = 2; FRAME with f = 0 and CFI 3; USER with QPSK on blocks 0 to 5; END
abbrev pub narrow_with : ℕ → List ℕ
narrow_with N = 0x10 ∷ 0 ∷ 0 ∷ N ∷ 1 ∷ 1 ∷ 12 ∷ 0x11 ∷ 0 ∷ 0 ∷ 0 ∷ 3 ∷ 0x30 ∷ 0 ∷ 1 ∷ 2 ∷ 0 ∷ 6 ∷ 0 ∷ []

abbrev pub narrow_plan : Plan
narrow_plan =
    record {
      cell = record { identity = 0; blocks = 6; prefix = 1; ports = 1; sixths = 12; duration = 0 };
      frame = record { number = 0; subframe = 0; cfi = 3 };
      his = record { at = 12; count = 0 };
      users = record { at = 12; count = 1 };
    }

-- CRS, PSS, SSS, PBCH, PCFICH, PHICH, PDSCH (24 a block), held, idle (the rest of four symbols of control region)
abbrev pub narrow_counts : List ℕ
narrow_counts = 48 ∷ 62 ∷ 62 ∷ 216 ∷ 16 ∷ 24 ∷ 144 ∷ 68 ∷ 224 ∷ []

pub record SixBlocks : Type 0 where
  pub plan : check_of (narrow_with 6) ≡ accepted narrow_plan
  pub counts : table kinds (kind_count (narrow_with 6) narrow_plan) ≡ narrow_counts
  -- two payloads, which differ in PBCH's first bit
  pub payload : AcceptedPayload (narrow_with 6) narrow_plan (zeros 90)
  pub other-payload : AcceptedPayload (narrow_with 6) narrow_plan (128 ∷ zeros 89)
  -- "A width of 6 no longer gives refusal 3"; its neighbours do
  pub narrower : verdict_of (check_of (narrow_with 5)) ≡ 3
  pub wider : verdict_of (check_of (narrow_with 7)) ≡ 3
