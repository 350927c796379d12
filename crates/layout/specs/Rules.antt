-- What the promises cite: the places of each owner above the users, by its own sentence of document 01, Owners.
-- A rule takes the cell c, where it speaks of the subframe the frame f, and a place (s, k). In the paper's letters: C identity,
-- N blocks, P ports, l a symbol's number in its slot. Of the slots n = 2f and 2f + 1 the rules need n mod 2 alone: `slot_of` is 0 or 1.
use Rattle.std.specs.Prelude.{if◌then◌else◌, ℕ, zero, suc, ◌+◌, ◌-◌, ◌*◌, ◌/◌, ◌%◌, Bool, not, ◌&&◌, ◌||◌, leb, ltb, eqb}
use Rattle.base.specs.Counts.{cnt, nth}
use Rattle.plan.specs.Fields.{mapping_units, group_size, symbol_groups}
use Rattle.plan.specs.declared.Cell.{Cell}
use Rattle.plan.specs.declared.Frame.{Frame}

-- Grid: "S = 14 symbols (extended 12), two slots of 7 (6) .. l counts in a slot, s in the subframe". The slot of symbol s,
-- n mod 2, and its number l there
unfoldable pub slot_length : Cell → ℕ
slot_length c = if eqb c.prefix 1 then 6 else 7

unfoldable pub slot_of : Cell → ℕ → ℕ
slot_of c s = if ltb s (slot_length c) then 0 else 1

unfoldable pub in_slot : Cell → ℕ → ℕ
in_slot c s = if ltb s (slot_length c) then s else s - slot_length c

-- ---- CRS, of port p: "Of the ports below P, 0 and 1 use l = 0 and 3rd from last; 2 and 3 use l = 1"
unfoldable pub crs_symbol : Cell → ℕ → ℕ → Bool
crs_symbol c p s = let l = in_slot c s in if ltb p 2 then eqb l 0 || eqb (l + 3) (slot_length c) else eqb l 1

-- "v: port 0: 0 at l = 0, else 3; port 1 the other way; port 2: 3(n mod 2); port 3: 3+3(n mod 2)"
unfoldable pub crs_shift : Cell → ℕ → ℕ → ℕ
crs_shift c zero s = if eqb (in_slot c s) 0 then 0 else 3
crs_shift c (suc zero) s = if eqb (in_slot c s) 0 then 3 else 0
crs_shift c (suc (suc zero)) s = 3 * slot_of c s
crs_shift c (suc (suc (suc p))) s = 3 + 3 * slot_of c s

-- "k = 6m+((v+C) mod 6)" for some m
unfoldable pub stands_at : Cell → ℕ → ℕ → Bool
stands_at c v k = eqb (k % 6) ((v + c.identity) % 6)

-- where port p's reference signal stands in a cell that has the port
unfoldable pub crs_of : Cell → ℕ → ℕ → ℕ → Bool
crs_of c p s k = crs_symbol c p s && stands_at c (crs_shift c p s) k

unfoldable pub crs : Cell → ℕ → ℕ → ℕ → Bool
crs c p s k = ltb p c.ports && crs_of c p s k

-- the positions of the ports below q: "CRS positions for four ports", and those of the cell's own ports
unfoldable pub crs_below : Cell → ℕ → ℕ → ℕ → Bool
crs_below c q s k = (ltb 0 q && crs_of c 0 s k) || (ltb 1 q && crs_of c 1 s k) || (ltb 2 q && crs_of c 2 s k) || (ltb 3 q && crs_of c 3 s k)

abbrev pub crs_of_four : Cell → ℕ → ℕ → Bool
crs_of_four c s k = crs_below c 4 s k

abbrev pub crs_any : Cell → ℕ → ℕ → Bool
crs_any c s k = crs_below c c.ports s k

-- ---- synchronisation: "f = 0, 5, slot 2f, centre 72 subcarriers (from 6N−36): the first and last five held, 62 used"
unfoldable pub marked : Frame → Bool
marked f = eqb f.subframe 0 || eqb f.subframe 5

-- the subcarriers from 6N − d to 6N + d − 1
unfoldable pub middle : Cell → ℕ → ℕ → Bool
middle c d k = leb (6 * c.blocks) (k + d) && ltb k (6 * c.blocks + d)

abbrev pub centre : Cell → ℕ → Bool
centre c k = middle c 36 k

abbrev pub used : Cell → ℕ → Bool
used c k = middle c 31 k

-- "PSS in the last symbol", "SSS one symbol earlier"
unfoldable pub pss : Cell → Frame → ℕ → ℕ → Bool
pss c f s k = marked f && eqb (s + 1) (slot_length c) && used c k

unfoldable pub sss : Cell → Frame → ℕ → ℕ → Bool
sss c f s k = marked f && eqb (s + 2) (slot_length c) && used c k

-- document 01's held, first: "the first and last five held" of the centre 72 in both symbols
unfoldable pub in_sync_area : Cell → Frame → ℕ → ℕ → Bool
in_sync_area c f s k = marked f && (eqb (s + 1) (slot_length c) || eqb (s + 2) (slot_length c)) && centre c k

unfoldable pub held_by_sync : Cell → Frame → ℕ → ℕ → Bool
held_by_sync c f s k = in_sync_area c f s k && not (used c k)

-- ---- PBCH: "f = 0, slot 1, l = 0..3, centre 72, skipping CRS positions for four ports"
unfoldable pub in_pbch_area : Cell → Frame → ℕ → ℕ → Bool
in_pbch_area c f s k = eqb f.subframe 0 && leb (slot_length c) s && ltb s (slot_length c + 4) && centre c k

unfoldable pub pbch : Cell → Frame → ℕ → ℕ → Bool
pbch c f s k = in_pbch_area c f s k && not (crs_of_four c s k)

-- document 01's held, second: "positions skipped but unused by CRS are held"
unfoldable pub held_by_pbch : Cell → Frame → ℕ → ℕ → Bool
held_by_pbch c f s k = in_pbch_area c f s k && crs_of_four c s k && not (crs_any c s k)

unfoldable pub held : Cell → Frame → ℕ → ℕ → Bool
held c f s k = held_by_sync c f s k || held_by_pbch c f s k

-- ---- control groups: the group of subcarrier k in control symbol s, and whether (s, k) is one of a group's four places: of six, "a group's
-- four places skip k with k mod 3 = C mod 3, also for one port"
unfoldable pub element_group : Cell → ℕ → ℕ → ℕ
element_group c s k = k / group_size c s

unfoldable pub in_group : Cell → ℕ → ℕ → Bool
in_group c s k = eqb (group_size c s) 4 || not (eqb (k % 3) (c.identity % 3))

-- document 01's quad: what fills a group's four places. "PCFICH quad i: group (C+floor(iN/2)) mod 2N", i = 0..3, of symbol 0
unfoldable pub format_group : Cell → ℕ → ℕ
format_group c i = (c.identity + i * c.blocks / 2) % (2 * c.blocks)

unfoldable pub is_format : Cell → ℕ → Bool
is_format c t = eqb t (format_group c 0) || eqb t (format_group c 1) || eqb t (format_group c 2) || eqb t (format_group c 3)

-- PCFICH has group t of symbol s
unfoldable pub format_has : Cell → ℕ → ℕ → Bool
format_has c s t = eqb s 0 && is_format c t

unfoldable pub pcfich : Cell → ℕ → ℕ → Bool
pcfich c s k = in_group c s k && format_has c s (element_group c s k)

-- ---- PHICH, of unit m: "With h = 2N−4 groups left in ascending order, quad i of unit m takes number (C+m+floor(ih/3)) mod h", i = 0..2.
-- Document 02, #108: "Extended: quad i lies in symbol i, its number (floor(C×h_i/h_0)+m+floor(i×h_i/3)) mod h_i, where h_i counts the groups
-- of symbol i not given to PCFICH". Else every quad lies in symbol 0, and floor(C×h_0/h_0) is C
unfoldable pub quad_symbol : Cell → ℕ → ℕ
quad_symbol c i = if eqb c.duration 1 then i else 0

-- whether group t of symbol s is left, and h_s
unfoldable pub is_left : Cell → ℕ → ℕ → Bool
is_left c s t = not (format_has c s t)

unfoldable pub groups_left : Cell → ℕ → ℕ
groups_left c s = cnt (is_left c s) (symbol_groups c s)

-- floor(C×h_s/h_0), from which the units' numbers in symbol s are counted
unfoldable pub start_number : Cell → ℕ → ℕ
start_number c s = c.identity * groups_left c s / groups_left c 0

-- the number that quad i takes, of the groups left in its symbol, and the group with that number: those left are numbered from 0 on, in
-- ascending order
unfoldable pub quad_number : Cell → ℕ → ℕ → ℕ
quad_number c m i = let s = quad_symbol c i in (start_number c s + m + i * groups_left c s / 3) % groups_left c s

unfoldable pub quad_group : Cell → ℕ → ℕ → ℕ
quad_group c m i = let s = quad_symbol c i in nth (is_left c s) (symbol_groups c s) (quad_number c m i)

-- quad i of unit m has group t of symbol s, and unit m has it
unfoldable pub quad_has : Cell → ℕ → ℕ → ℕ → ℕ → Bool
quad_has c m s t i = eqb s (quad_symbol c i) && eqb t (quad_group c m i)

unfoldable pub mapping_unit_has : Cell → ℕ → ℕ → ℕ → Bool
mapping_unit_has c m s t = quad_has c m s t 0 || quad_has c m s t 1 || quad_has c m s t 2

unfoldable pub phich : Cell → ℕ → ℕ → ℕ → Bool
phich c m s k = ltb m (mapping_units c) && in_group c s k && mapping_unit_has c m s (element_group c s k)
