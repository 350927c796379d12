-- For the inner contracts only: a user's count without a look at each place. proofs/UserElements.antt: it is the number of its places.
-- In document 01's letters: N blocks, P a number of ports, l a symbol's number in its slot.
use Rattle.std.specs.Prelude.{if◌then◌else◌, ℕ, ◌+◌, ◌-◌, ◌*◌, min, max, Bool, ◌&&◌, ◌||◌, List, leb, ltb, eqb}
use Rattle.plan.specs.CommandLists.{users_of}
use Rattle.plan.specs.declared.Cell.{Cell}
use Rattle.plan.specs.declared.Frame.{Frame}
use Rattle.plan.specs.declared.User.{User}
use Rattle.plan.specs.declared.Plan.{Plan}
use Rattle.base.specs.Choice.{indicator}
use Rattle.layout.specs.Rules.{slot_length, crs_symbol, marked}
use Rattle.plan.specs.Fields.{control_symbols}
use Rattle.layout.specs.Owners.{symbols}
use Rattle.base.specs.Sums.{sum_to, sum_of}

-- how many of six subcarriers in a row have reference signals: each of the ports 0 to 3 below P that uses symbol s has one of the six
unfoldable pub signals : Cell → ℕ → ℕ → ℕ
signals c P s = sum_to 4 (λ q. indicator (ltb q P && crs_symbol c q s))

-- the centre 72 subcarriers of symbol s are not the users': "f = 0, 5, slot 2f .. PSS in the last symbol .. SSS one symbol earlier";
-- "PBCH, f = 0, slot 1, l = 0..3"
unfoldable pub taken : Cell → Frame → ℕ → Bool
taken c f s =
    marked f && (eqb (s + 1) (slot_length c) || eqb (s + 2) (slot_length c)) || eqb f.subframe 0 && leb (slot_length c) s && ltb s (slot_length c + 4)

-- how many of a user's half blocks of six subcarriers, 2 first to 2 (first + count) - 1, are among the centre's twelve, N - 6 to N + 5:
-- for an odd N these are no whole blocks
abbrev pub centre_halves : Cell → ℕ → ℕ → ℕ
centre_halves c first count = min (2 * (first + count)) (c.blocks + 6) - max (2 * first) (c.blocks - 6)

-- a user's half blocks; where the centre is taken, without the centre's
unfoldable pub halves : Cell → ℕ → ℕ → Bool → ℕ
halves c first count t = 2 * count - (if t then centre_halves c first count else 0)

-- a user's places in symbol s: "its blocks, symbols s ≥ CFI, not owned above", CFI + 1 at six blocks (document 02, #102)
unfoldable pub row_elements : Cell → Frame → ℕ → ℕ → ℕ → ℕ
row_elements c f first count s =
    if ltb s (control_symbols c f) then 0 else (6 - signals c c.ports s) * halves c first count (taken c f s)

-- A USER'S COUNT, and that of all users
unfoldable pub user_elements : Cell → Frame → ℕ → ℕ → ℕ
user_elements c f first count = sum_to (symbols c) (row_elements c f first count)

unfoldable pub all_elements : Cell → Frame → List User → ℕ
all_elements c f us = sum_of us (λ u. user_elements c f u.first u.count)

abbrev pub users_elements : List ℕ → Plan → ℕ
users_elements w p = all_elements p.cell p.frame (users_of w p)
