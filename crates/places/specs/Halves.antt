-- For the loops only: half blocks of six subcarriers. Half block b of symbol s is k = 6b, .., 6b + 5; a reference signal stands at the
-- same remainders of k by six in each of them, and the centre 72 subcarriers and a user's blocks are whole half blocks.
use Rattle.std.specs.Prelude.{ℕ, ◌*◌, Bool, not, ◌&&◌, ◌||◌, List, leb}
use Rattle.plan.specs.CommandLists.{users_of}
use Rattle.plan.specs.declared.Cell.{Cell}
use Rattle.plan.specs.declared.Frame.{Frame}
use Rattle.plan.specs.declared.Plan.{Plan}
use Rattle.layout.specs.Rules.{slot_of, crs_below, in_sync_area, in_pbch_area}
use Rattle.plan.specs.Fields.{control_symbols}
use Rattle.layout.specs.Chain.{user_has}

-- the r-th of six subcarriers of symbol s has no reference signal of the ports below P
unfoldable pub without : Cell → ℕ → ℕ → ℕ → Bool
without c P s r = not (crs_below c P s r)

-- the same for the cell's ports, and for four
abbrev pub open_place : Cell → ℕ → ℕ → Bool
open_place c s r = without c c.ports s r

abbrev pub open_of_four : Cell → ℕ → ℕ → Bool
open_of_four c s r = without c 4 s r

-- half block b of symbol s lies in PBCH's area
abbrev pub in_pbch : Cell → Frame → ℕ → ℕ → Bool
in_pbch c f s b = in_pbch_area c f s (6 * b)

-- half block b of symbol s is wholly taken by a synchronisation mark or PBCH, with what is held there
unfoldable pub taken_half : Cell → Frame → ℕ → ℕ → Bool
taken_half c f s b = in_sync_area c f s (6 * b) || in_pbch c f s b

-- and goes to user i but for its reference signals
unfoldable pub open_to : List ℕ → Plan → ℕ → ℕ → ℕ → Bool
open_to w p i s b =
    user_has (users_of w p) i (slot_of p.cell s) (6 * b) && leb (control_symbols p.cell p.frame) s && not (taken_half p.cell p.frame s b)
