-- For the inner contracts and loops only: the owner of a place by few tests in turn, as the code finds it. proofs/OneOwner.antt: it is
-- the owner whose rule holds.
use Rattle.std.specs.Prelude.{if◌then◌else◌, ℕ, zero, suc, ◌+◌, ◌-◌, ◌*◌, ◌/◌, ◌%◌, Bool, true, false, ◌&&◌, List, [], ◌∷◌, leb, ltb, eqb}
use Rattle.plan.specs.Fields.{control_symbols, mapping_units, group_size}
use Rattle.plan.specs.CommandLists.{users_of}
use Rattle.plan.specs.declared.Cell.{Cell}
use Rattle.plan.specs.declared.Frame.{Frame}
use Rattle.plan.specs.declared.User.{User}
use Rattle.plan.specs.declared.Plan.{Plan}
use Rattle.base.specs.Choice.{indicator, passes_at}
use Rattle.base.specs.Counts.{cnt, upwards}
use Rattle.base.specs.Sums.{sum_to}
use Rattle.base.specs.Ring.{past, ring_below}
use Rattle.layout.specs.Rules.{slot_length, slot_of, crs_symbol, crs_shift, stands_at, used, in_sync_area}
use Rattle.layout.specs.Rules.{in_pbch_area, element_group, in_group, format_has, quad_symbol, is_left, groups_left, start_number}
use Rattle.layout.specs.Owners.{blocks_have}
use Rattle.layout.specs.declared.Mark.TheVariants.{Primary, Secondary}
use Rattle.layout.specs.declared.Owner.{Owner}
use Rattle.layout.specs.declared.Owner.TheVariants.{Crs, Sync, Pbch, Pcfich, Phich, User as UserOf, Held, Idle}

-- of the ports p and p + 1 the one whose reference signal, in a symbol that both use, stands at the place, 4 for none
unfoldable pub pilot_of : Cell → ℕ → ℕ → ℕ → ℕ
pilot_of c p s k = if stands_at c (crs_shift c p s) k then p else if stands_at c (crs_shift c (p + 1) s) k then p + 1 else 4

-- the port below 4 whose reference signal a four-port cell has at the place, 4 for none
unfoldable pub pilot : Cell → ℕ → ℕ → ℕ
pilot c s k = if crs_symbol c 0 s then pilot_of c 0 s k else if crs_symbol c 2 s then pilot_of c 2 s k else 4

-- how many of the groups a, b, c, d stand below t
abbrev pub below_of : ℕ → ℕ → ℕ → ℕ → ℕ → ℕ
below_of a b c d t = indicator (ltb a t) + indicator (ltb b t) + indicator (ltb c t) + indicator (ltb d t)

-- a group's number in symbol s: how many groups left stand below it
abbrev pub number : Cell → ℕ → ℕ → ℕ
number c s t = cnt (is_left c s) t

-- of the groups left in symbol s, those of the units' quads i are as many as units, from i·h/3 past the start on; the unit that takes the
-- number d past it, of the quads below n
unfoldable pub quad_in : Cell → ℕ → ℕ → ℕ → Bool
quad_in c s d i = let a = i * groups_left c s / 3 in eqb (quad_symbol c i) s && (leb a d && ltb d (a + mapping_units c))

unfoldable pub unit_at : Cell → ℕ → ℕ → ℕ → Owner
unit_at c s d zero = Idle
unit_at c s d (suc i) = if quad_in c s d i then Phich (d - i * groups_left c s / 3) else unit_at c s d i

-- the unit that has the group left with number n in symbol s; group t of the symbol, and subcarrier k there
unfoldable pub number_at : Cell → ℕ → ℕ → Owner
number_at c s n = unit_at c s (past (start_number c s) (groups_left c s) n) 3

unfoldable pub group_at : Cell → ℕ → ℕ → Owner
group_at c s t = if format_has c s t then Pcfich else number_at c s (number c s t)

unfoldable pub control_at : Cell → ℕ → ℕ → Owner
control_at c s k = if in_group c s k then group_at c s (element_group c s k) else Idle

-- the owner above the users, or idle
unfoldable pub fixed_at : Cell → Frame → ℕ → ℕ → Owner
fixed_at c f s k =
    let q = pilot c s k in
    if ltb q c.ports then Crs q
    else if ltb s 3 then control_at c s k
    else if in_sync_area c f s k
    then (if used c k then Sync (if eqb (s + 1) (slot_length c) then Primary else Secondary) else Held)
    else if in_pbch_area c f s k
    then (if ltb q 4 then Held else Pbch)
    else Idle

-- subcarrier k lies in the blocks of user i in slot n
abbrev pub user_has : List User → ℕ → ℕ → ℕ → Bool
user_has us i n k = passes_at (λ (u : User). blocks_have u n k) us i

-- the first of a list that passes, as the owner with its number, which is counted from i on; idle where none does
unfoldable pub first_as : {A : Type 0} → (ℕ → Owner) → (A → Bool) → ℕ → List A → Owner
first_as owner test i [] = Idle
first_as owner test i (a ∷ rest) = if test a then owner i else first_as owner test (i + 1) rest

-- the first user whose blocks have subcarrier k in slot n, numbered from i on
unfoldable pub user_from : ℕ → List User → ℕ → ℕ → Owner
user_from i us n k = first_as UserOf (λ (u : User). blocks_have u n k) i us

unfoldable pub is_idle : Owner → Bool
is_idle (Crs q) = false
is_idle (Sync m) = false
is_idle Pbch = false
is_idle Pcfich = false
is_idle (Phich m) = false
is_idle (UserOf i) = false
is_idle Held = false
is_idle Idle = true

unfoldable pub owner_at : List ℕ → Plan → ℕ → ℕ → Owner
owner_at w p s k =
    let o = fixed_at p.cell p.frame s k in
    if is_idle o
    then (if ltb s (control_symbols p.cell p.frame) then Idle else user_from 0 (users_of w p) (slot_of p.cell s) k)
    else o

-- of the groups left in symbol s with a number below n, those of the units: of each quad that lies there as many as units, around the ring
unfoldable pub quads_below : Cell → ℕ → ℕ → ℕ → ℕ
quads_below c s n i = let h = groups_left c s in if eqb (quad_symbol c i) s then ring_below h (start_number c s % h + i * h / 3) (mapping_units c) n else 0

unfoldable pub taken_below : Cell → ℕ → ℕ → ℕ
taken_below c s n = quads_below c s n 0 + quads_below c s n 1 + quads_below c s n 2

-- how many vacant groups of symbol s stand below group t
unfoldable pub vacant_below : Cell → ℕ → ℕ → ℕ
vacant_below c s t = number c s t - taken_below c s (number c s t)

-- and those that come before subcarrier k of symbol s in the order of 6.8.5, of L symbols: in a symbol before s one that starts at k does
unfoldable pub vacant_before : Cell → ℕ → ℕ → ℕ → ℕ
vacant_before c L k s = sum_to L (λ (n : ℕ). vacant_below c n (upwards (group_size c n) (k + indicator (ltb n s))))
