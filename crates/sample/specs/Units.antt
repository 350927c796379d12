-- What the promises cite: THE table of units.
use Rattle.std.specs.Prelude.{ℕ, false, List, [], ◌∷◌, eqb, pos, Float, find, Option, Some, None}
use Rattle.std.specs.Float.{fin, binary32}
use Rattle.std.specs.Float.Ieee.{of_bits}
use Rattle.base.specs.Bytes.{unit_byte}
use Rattle.sample.specs.declared.UnitRow.{UnitRow}

-- A row: the unit (document 01's term: u of (I + jJ)/√u) with its byte in the grid, the largest level either way, the bits of the gain, an f32.
abbrev pub unit_row : ℕ → ℕ → ℕ → UnitRow
unit_row u l bits = record { byte = unit_byte u; unit = u; limit = l; gain = of_bits binary32 bits }

-- Document 01, Grid: "Units: 1, 2, 4, 10, 20, 42, 84". Refusals, 9: no "level beyond ±8", the same for each of them.
-- Document 02, #109: "Unit 170 with one port; with diversity 340", "Levels to ±15 are legal in these two units only, which refusal 9 respects".
-- Samples: "the gain is the f32 nearest 1/√u", which `Levelled` of Promise says of the row of every sample.
abbrev pub unit_rows : List UnitRow
unit_rows =
    unit_row 1 8 0x3f80_0000
    ∷ unit_row 2 8 0x3f35_04f3
    ∷ unit_row 4 8 0x3f00_0000
    ∷ unit_row 10 8 0x3ea1_e89b
    ∷ unit_row 20 8 0x3e64_f92e
    ∷ unit_row 42 8 0x3e1e_01b3
    ∷ unit_row 84 8 0x3ddf_7483
    ∷ unit_row 170 15 0x3d9d_130e
    ∷ unit_row 340 15 0x3d5e_2305
    ∷ []

-- the first row with the byte
abbrev pub seek : ℕ → List UnitRow → Option UnitRow
seek b rs = find (λ (r : UnitRow). eqb r.byte b) rs

unfoldable pub scale_of : ℕ → Option UnitRow
scale_of b = seek b unit_rows

-- the gain, and +0 where the byte has no row
abbrev pub gain_of : Option UnitRow → Float
gain_of (Some r) = r.gain
gain_of None = fin false 0 (pos 0)
