-- What the promises cite: the ranges of the commands' fields, and what they go by: the control region and its groups. Document 01, Plan and
-- payload; Owners (PHICH); document 02.
use Rattle.std.specs.Prelude.{ℕ, zero, suc, ◌+◌, ◌-◌, ◌*◌, ◌/◌, Bool, true, cond, ◌&&◌, ◌||◌, List, [], ◌∷◌, leb, ltb, eqb}
use Rattle.plan.specs.Lists.{one_of}
use Rattle.plan.specs.declared.Cell.{Cell}
use Rattle.plan.specs.declared.Frame.{Frame}
use Rattle.plan.specs.declared.Hi.{Hi}
use Rattle.plan.specs.declared.User.{User}

-- "blocks N u8 (15, 25, 50, 75, 100)"; "N = 6 joins the widths" (document 02, #102)
abbrev pub widths : List ℕ
widths = 6 ∷ 15 ∷ 25 ∷ 50 ∷ 75 ∷ 100 ∷ []

-- "ports P u8 (1, 2, 4)"
abbrev pub port_counts : List ℕ
port_counts = 1 ∷ 2 ∷ 4 ∷ []

-- "g u8 (1, 3, 6, 12), which is N_g in sixths"
abbrev pub sixth_counts : List ℕ
sixth_counts = 1 ∷ 3 ∷ 6 ∷ 12 ∷ []

-- "modulation Q u8 (2, 4, 6 bits)"; "modulation 8 joins Q" (document 02, #109)
abbrev pub orders : List ℕ
orders = 2 ∷ 4 ∷ 6 ∷ 8 ∷ []

-- "identity C u16 (0–503); blocks N u8 ..; prefix u8 (0 normal, 1 extended); ports P u8 ..; g u8 .."; "A CELLX duration above 1 is refused 3"
-- (document 02, #108)
unfoldable pub cell_ok : Cell → Bool
cell_ok c =
    leb c.identity 503 && one_of c.blocks widths && leb c.prefix 1 && one_of c.ports port_counts && one_of c.sixths sixth_counts
    && leb c.duration 1

-- "frame F u16 (0–1023); subframe f u8 (0–9); CFI u8 (1–3)"
unfoldable pub frame_ok : Frame → Bool
frame_ok f = leb f.number 1023 && leb f.subframe 9 && leb 1 f.cfi && leb f.cfi 3

-- how many symbols the control region has: "N = 6 joins the widths, and there the control region is CFI + 1 symbols; at other widths it
-- is CFI" (document 02, #102)
unfoldable pub control_symbols : Cell → Frame → ℕ
control_symbols c f = cond (eqb c.blocks 6) (f.cfi + 1) f.cfi

-- "18, at FRAME after 4, when duration is extended and the control region is shorter than three symbols" (#108): the opposite
unfoldable pub phich_fits : Cell → Frame → Bool
phich_fits c f = cond (eqb c.duration 1) (leb 3 (control_symbols c f)) true

-- document 01's units: "PHICH: ceil(gN/48) groups (extended twice that); normal unit = group, extended unit = groups 2m, 2m+1"
unfoldable pub mapping_units : Cell → ℕ
mapping_units c = (c.sixths * c.blocks + 47) / 48

unfoldable pub phich_groups : Cell → ℕ
phich_groups c = cond (eqb c.prefix 1) (2 * mapping_units c) (mapping_units c)

-- "sequences 0–7, extended 0–3"
unfoldable pub sequences_of : Cell → ℕ
sequences_of c = cond (eqb c.prefix 1) 4 8

-- "5 HI group or sequence beyond the count, or pair used before": the first part, and two HIs of one pair
unfoldable pub hi_ok : Cell → Hi → Bool
hi_ok c h = ltb h.group (phich_groups c) && ltb h.sequence (sequences_of c)

unfoldable pub same_pair : Hi → Hi → Bool
same_pair h e = eqb h.group e.group && eqb h.sequence e.sequence

-- ---- control groups: "Symbol 0 has 2N groups of six subcarriers". Document 02: "Symbols 1 and 2 have three groups of four per block,
-- symbol 1 with four ports two groups of six" (#108); "A fourth control symbol has three groups of four per block in the normal prefix,
-- two groups of six in the extended one" (#102). The subcarriers of a group of control symbol s, 0 to 3 (36.211 6.2.4)
unfoldable pub group_size : Cell → ℕ → ℕ
group_size c s = cond (eqb s 0 || (eqb s 1 && eqb c.ports 4) || (eqb s 3 && eqb c.prefix 1)) 6 4

-- how many groups the symbol has, and those below symbol s have
unfoldable pub symbol_groups : Cell → ℕ → ℕ
symbol_groups c s = 12 * c.blocks / group_size c s

unfoldable pub groups_below : Cell → ℕ → ℕ
groups_below c zero = 0
groups_below c (suc s) = groups_below c s + symbol_groups c s

-- ---- control elements: "With R groups left in the control symbols (s < CFI) after PCFICH and PHICH, there are floor(R/9)" (document 02,
-- #101). R: PCFICH has four groups, each PHICH unit three. (`layout` shows that so many are left: no group is taken twice)
unfoldable pub region_groups : Cell → Frame → ℕ
region_groups c f = groups_below c (control_symbols c f) - 4 - 3 * mapping_units c

unfoldable pub control_elements : Cell → Frame → ℕ
control_elements c f = region_groups c f / 9

-- "RNTI u16 (1–65535); modulation Q u8 ..; first block u8; count u8, at least 1, first + count ≤ N"
unfoldable pub user_ok : Cell → User → Bool
user_ok c u = leb 1 u.rnti && leb u.rnti 65535 && one_of u.order orders && leb 1 u.count && leb (u.first + u.count) c.blocks

-- "7 RNTI or block used before": two users have an RNTI or a block in common
unfoldable pub clash : User → User → Bool
clash u v = eqb u.rnti v.rnti || ltb u.first (v.first + v.count) && ltb v.first (u.first + u.count)
