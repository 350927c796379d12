-- What the promises cite. TS 36.211 6.9.2 and 6.9.3, document 01 "PHICH": chips in the quads of a unit, summed per unit.
use Rattle.std.specs.Prelude.{◌≡◌, ℕ, suc, ◌+◌, ◌-◌, ◌*◌, ◌/◌, ◌%◌, ◌<◌, Bool, cond, ◌&&◌, List, [], ◌∷◌, length, ◌==◌, nat_le, nat_lt}
use Rattle.base.specs.declared.Pair.{Pair}
use Rattle.base.specs.Pairs.{nil, plus}
use Rattle.base.specs.Tables.{table}
use Rattle.plan.specs.declared.Hi.{Hi}
use Rattle.phich.specs.His.{hi_number}
use Rattle.phich.specs.Spreading.{chip_at}

-- A group has l of the four places of each quad, and groups lie side by side: document 01's unit, "normal unit = group,
-- extended unit = groups 2m, 2m+1" (laws unit-normal, unit-extended). A unit's sums and its bits go by it
unfoldable pub mapping_unit : ℕ → Hi → ℕ
mapping_unit l h = h.group * l / 4

-- the first of its group's places in each quad: 0, and with the extended prefix 2 for an odd group
unfoldable pub first_place : ℕ → Hi → ℕ
first_place l h = h.group * l % 4

-- A unit's places are 0 to 11: place i is place i % 4 of document 01's quad i / 4. Does h's group have it?
unfoldable pub has : ℕ → Hi → ℕ → Bool
has l h i = nat_le (first_place l h) (i % 4) && nat_lt (i % 4) (first_place l h + l)

-- the number of h's chip at place i: l of them stand in each quad
abbrev pub chip_number : ℕ → Hi → ℕ → ℕ
chip_number l h i = i / 4 * l + (i % 4 - first_place l h)

-- 6.9.2: chips at the places of the group, and 0 at the others: d(2i), d(2i+1), 0, 0 or 0, 0, d(2i), d(2i+1) with the extended prefix
unfoldable pub part_at : ℕ → (ℕ → ℕ) → Hi → ℕ → ℕ → Pair
part_at l c h b i = cond (has l h i) (chip_at l c h.sequence b (chip_number l h i)) nil

-- what the HI h, with the bit b, adds at place i of the unit m
unfoldable pub added_at : ℕ → (ℕ → ℕ) → ℕ → Hi → ℕ → ℕ → Pair
added_at l c m h b i = cond (mapping_unit l h == m) (part_at l c h b i) nil

-- 6.9.3: the sum at place i of the unit m, over the HIs hs of which the first is number k; bit n is that of HI n
unfoldable pub sum_at : ℕ → (ℕ → ℕ) → ℕ → (ℕ → ℕ) → ℕ → List Hi → ℕ → Pair
sum_at l c m bit i [] k = nil
sum_at l c m bit i (h ∷ hs) k = plus (added_at l c m h (bit k) i) (sum_at l c m bit i hs (suc k))

-- "summed per unit": the sums at the unit's twelve places
unfoldable pub mapping_unit_sums : ℕ → (ℕ → ℕ) → ℕ → (ℕ → ℕ) → List Hi → List Pair
mapping_unit_sums l c m bit hs = table 12 (λ (i : ℕ). sum_at l c m bit i hs 0)

-- the number of the unit's HIs
unfoldable pub count_in : ℕ → ℕ → List Hi → ℕ
count_in l m [] = 0
count_in l m (h ∷ hs) = cond (mapping_unit l h == m) 1 0 + count_in l m hs

-- "sequences 0–7, extended 0–3"
unfoldable pub Within : ℕ → List Hi → Type 0
Within l [] = Unit {0}
Within l (h ∷ hs) = (h.sequence < 2 * l) × Within l hs

-- "A unit's bits are those of the HIs of its groups": the two agree in all of them
unfoldable pub SameHiBits : ℕ → ℕ → List Hi → (ℕ → ℕ) → (ℕ → ℕ) → Type 0
SameHiBits l m hs bit bit' = (n : ℕ) → n < length hs → mapping_unit l (hi_number hs n) ≡ m → bit n ≡ bit' n
