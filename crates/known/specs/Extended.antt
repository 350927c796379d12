-- What the witness of document 02's #108 cites: a plan with the extended PHICH duration that the plan check accepts, its counts, two payloads
-- accepted under it, and where the quads of its unit lie.
use Rattle.std.specs.Prelude.{ℕ, ◌≡◌, List, [], ◌∷◌, Ok as accepted}
use Rattle.base.specs.Tables.{table}
use Rattle.plan.specs.Check.{check_of}
use Rattle.plan.specs.declared.Cell.{Cell}
use Rattle.plan.specs.declared.Plan.{Plan}
use Rattle.layout.specs.Rules.{quad_symbol, groups_left, quad_group}
use Rattle.counts.specs.Counts.{kinds, kind_count}
use Rattle.payload.specs.Payload.{AcceptedPayload}

-- CELLX with C = 100, N = 6, the normal prefix, four ports, N_g = 1/6 and the extended duration; FRAME with f = 1 and CFI 2, so three symbols
-- of control region; HI; END
abbrev pub extended_example : List ℕ
extended_example = 0x12 ∷ 0 ∷ 100 ∷ 6 ∷ 0 ∷ 4 ∷ 1 ∷ 1 ∷ 0x11 ∷ 0 ∷ 0 ∷ 1 ∷ 2 ∷ 0x20 ∷ 0 ∷ 0 ∷ 0 ∷ []

-- its cell, with P ports
abbrev pub extended_cell : ℕ → Cell
extended_cell P = record { identity = 100; blocks = 6; prefix = 0; ports = P; sixths = 1; duration = 1 }

abbrev pub extended_plan : Plan
extended_plan =
    record {
      cell = extended_cell 4;
      frame = record { number = 0; subframe = 1; cfi = 2 };
      his = record { at = 13; count = 1 };
      users = record { at = 16; count = 0 };
    }

-- CRS, PSS, SSS, PBCH, PCFICH, PHICH, PDSCH, held, idle
abbrev pub extended_counts : List ℕ
extended_counts = 144 ∷ 0 ∷ 0 ∷ 0 ∷ 16 ∷ 12 ∷ 0 ∷ 0 ∷ 836 ∷ []

pub record Extended : Type 0 where
  pub plan : check_of extended_example ≡ accepted extended_plan
  pub counts : table kinds (kind_count extended_example extended_plan) ≡ extended_counts
  -- two payloads, which differ in the HI's bit
  pub payload : AcceptedPayload extended_example extended_plan (0 ∷ [])
  pub other-payload : AcceptedPayload extended_example extended_plan (128 ∷ [])
  -- h_0, h_1, h_2 and the quads: symbol 0 has 12 groups, of which PCFICH has 1, 4, 7 and 10; symbol 1 has two groups of six per block, or with
  -- two ports three of four, and symbol 2 three of four
  pub left : table 3 (groups_left (extended_cell 4)) ≡ 8 ∷ 12 ∷ 18 ∷ []
  pub left-of-two : table 3 (groups_left (extended_cell 2)) ≡ 8 ∷ 18 ∷ 18 ∷ []
  pub quad-symbols : table 3 (quad_symbol (extended_cell 4)) ≡ 0 ∷ 1 ∷ 2 ∷ []
  pub groups : table 3 (quad_group (extended_cell 4) 0) ≡ 6 ∷ 10 ∷ 3 ∷ []
  pub groups-of-two : table 3 (quad_group (extended_cell 2) 0) ≡ 6 ∷ 15 ∷ 3 ∷ []
