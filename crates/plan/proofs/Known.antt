-- Document 01, Known elements: "C 503 passes, 504 is refused 3; first + count = N passes, N + 1 is refused 6"; document 02, #108: CELLX's duration
-- and the control region. By computation. Assumes nothing.
use Prim.Native.Nat.{ℕ, ◌+◌}
use mathlib.Core.Path.{◌≡◌, refl, ap}
use mathlib.Core.List.{List, [], ◌∷◌, ◌++◌}
use Rattle.std.specs.declared.result.Result.TheVariants.{Ok as accepted}
use Rattle.plan.specs.Lists.{one_of, none_of}
use Rattle.plan.specs.Commands.{byte, cell_with, cell_of, cellx_of, frame_of, hi_of, user_of, entries, entry_in, size_of, command_of, commands_after}
use Rattle.plan.specs.Fields.{cell_ok, frame_ok, control_symbols, phich_fits, mapping_units, phich_groups, sequences_of, hi_ok, same_pair, user_ok, clash}
use Rattle.plan.specs.Check.{begin, hi_fault, user_fault, fault, state_after, plan_of, run, check_of, verdict_of}
use Rattle.plan.specs.declared.Plan.{Plan}

-- CELL with the lower byte of an identity from 256 on and N = 15; then FRAME, a USER with a first block and 10 blocks, and END
abbrev plan_with : ℕ → ℕ → List ℕ
plan_with lower first = 0x10 ∷ 1 ∷ lower ∷ 15 ∷ 0 ∷ 1 ∷ 1 ∷ 0x11 ∷ 0 ∷ 0 ∷ 1 ∷ 1 ∷ 0x30 ∷ 0 ∷ 1 ∷ 2 ∷ first ∷ 10 ∷ 0x00 ∷ []

pub limits : (verdict_of (check_of (plan_with 247 5)) ≡ 0) × (verdict_of (check_of (plan_with 248 5)) ≡ 3) × (verdict_of (check_of (plan_with 247 6)) ≡ 6)
unfolding one_of none_of cell_with cell_of frame_of user_of entries entry_in size_of command_of commands_after cell_ok frame_ok control_symbols phich_fits user_ok clash begin user_fault fault
    state_after plan_of run check_of
limits = (refl, refl, refl)

-- CELLX with the normal duration has CELL's cell
pub cellx-normal : (l : List ℕ) → byte l 7 ≡ 0 → cellx_of l ≡ cell_of l
unfolding cellx_of cell_of
cellx-normal l e = ap (λ (d : ℕ). cell_with d l) e

-- N = 15 blocks or 6: CELL, or CELLX with a duration; then FRAME with a CFI, an HI and END
abbrev operands : ℕ → List ℕ
operands blocks = 1 ∷ 247 ∷ blocks ∷ 0 ∷ 1 ∷ 1 ∷ []

abbrev after_cell : ℕ → List ℕ
after_cell cfi = 0x11 ∷ 0 ∷ 0 ∷ 1 ∷ cfi ∷ 0x20 ∷ 0 ∷ 2 ∷ 0x00 ∷ []

abbrev with_cell : ℕ → ℕ → List ℕ
with_cell blocks cfi = 0x10 ∷ operands blocks ++ after_cell cfi

abbrev with_cellx : ℕ → ℕ → ℕ → List ℕ
with_cellx duration blocks cfi = 0x12 ∷ operands blocks ++ (duration ∷ after_cell cfi)

-- the plan of N = 15, CFI 1 and the normal duration, with its HI at a position
abbrev normal_plan : ℕ → Plan
normal_plan at =
    record {
      cell = record { identity = 503; blocks = 15; prefix = 0; ports = 1; sixths = 1; duration = 0 };
      frame = record { number = 0; subframe = 1; cfi = 1 };
      his = record { at = at; count = 1 };
      users = record { at = at + 3; count = 0 };
    }

-- a normal duration is CELL's, one byte further on; 2 is refused 3; the extended one has three control symbols: CFI 3, or CFI 2 at six blocks
pub durations :
    (check_of (with_cell 15 1) ≡ accepted (normal_plan 12)) × (check_of (with_cellx 0 15 1) ≡ accepted (normal_plan 13)) ×
    (verdict_of (check_of (with_cellx 2 15 3)) ≡ 3) × (verdict_of (check_of (with_cellx 1 15 2)) ≡ 18) × (verdict_of (check_of (with_cellx 1 15 3)) ≡ 0) ×
    (verdict_of (check_of (with_cellx 1 6 1)) ≡ 18) × (verdict_of (check_of (with_cellx 1 6 2)) ≡ 0)
unfolding one_of none_of cell_with cell_of cellx_of frame_of hi_of entries entry_in size_of command_of commands_after cell_ok frame_ok control_symbols
    phich_fits mapping_units phich_groups sequences_of hi_ok same_pair
    begin hi_fault fault state_after plan_of run check_of
durations = (refl, refl, refl, refl, refl, refl, refl)
