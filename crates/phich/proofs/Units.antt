-- An acknowledgement unit, for both lengths: its sums agree exactly when the bits of its HIs do, each bit is read back from
-- them, they are 0 where the unit is empty, and at most eight either way. Assumes nothing.
use Rattle.std.specs.Prelude.{if◌then◌else◌}
use Rattle.std.proofs.Common.{◌≡◌, ℕ, suc, ◌+◌, ◌*◌, ◌/◌, ◌%◌, ◌<◌, ◌≤◌, Bool, true, false, cond, eqb, ◌↔◌}
use Rattle.std.proofs.Common.{List, [], ◌∷◌, length, get_or, sym, refl, ap, ◌∙◌, subst, ap₂, suc-le-suc, zero-le, arith, ne_eqb}
use native.Mathlib.Decide.{ℕ_discrete}
use Rattle.base.specs.Signs.{below}
use Rattle.base.specs.Pairs.{nil, plus, Small}
use Rattle.base.specs.Bits.{bit_at}
use Rattle.base.specs.Tables.{table}
use Rattle.base.proofs.Pairs.{plus-small}
use Rattle.base.proofs.Tables.{table_at, table_same}
use Rattle.plan.specs.declared.Cell.{Cell}
use Rattle.plan.specs.declared.Hi.{Hi}
use Rattle.plan.specs.Fields.{mapping_units, phich_groups}
use Rattle.plan.specs.Valid.{HiIn}
use Rattle.phich.specs.His.{hi_number, Distinct}
use Rattle.phich.specs.Spreading.{spread_length, Length}
use Rattle.phich.specs.Units.{mapping_unit, first_place, part_at, added_at, sum_at, mapping_unit_sums, count_in, Within, SameHiBits}
use Rattle.phich.specs.Recovery.{bit_in}
use Rattle.phich.proofs.Parts.{part_small}
use Rattle.phich.proofs.Along.{along-same}
use Rattle.phich.proofs.Recovered.{below-along}
use Rattle.phich.proofs.Few.{few}

-- ---- units and places of both prefixes, in the papers' words
pub unit-normal : (h : Hi) → mapping_unit 4 h ≡ h.group
unfolding mapping_unit
unit-normal h = omega arith

pub unit-extended : (h : Hi) → mapping_unit 2 h ≡ h.group / 2
unfolding mapping_unit
unit-extended h = omega arith

pub first-normal : (h : Hi) → first_place 4 h ≡ 0
unfolding first_place
first-normal h = omega arith

pub first-extended : (h : Hi) → first_place 2 h ≡ 2 * (h.group % 2)
unfolding first_place
first-extended h = omega arith

-- ---- a cell's length, and the unit of an HI, which is one of the cell's
module _ (cell : Cell) where
  pub length-ok : Length (spread_length cell)
  unfolding spread_length
  length-ok = pick (eqb cell.prefix 1)
    where
      pick : (t : Bool) → Length (if t then 2 else 4)
      pick true = (omega arith, omega arith, omega arith)
      pick false = (omega arith, omega arith, omega arith)

  pub hi-unit : (h : Hi) → HiIn cell h → mapping_unit (spread_length cell) h < mapping_units cell
  unfolding spread_length phich_groups
  hi-unit h i = pick (eqb cell.prefix 1) i.group
    where
      pick : (t : Bool) → h.group < cond t (2 * mapping_units cell) (mapping_units cell) → mapping_unit (if t then 2 else 4) h < mapping_units cell
      pick true l = omega (arith, unit-extended h)
      pick false l = omega (arith, unit-normal h)

-- ---- payload bits
pub bit_le : (s : List ℕ) (n : ℕ) → bit_at s n ≤ 1
unfolding bit_at
bit_le s n = omega arith

-- ---- sizes: an HI adds at most 1 either way, and only to its unit
module _ (l : ℕ) (c : ℕ → ℕ) (m : ℕ) (i : ℕ) where
  added-small : (h : Hi) (b : ℕ) → Small (cond (eqb (mapping_unit l h) m) 1 0) (added_at l c m h b i)
  unfolding added_at
  added-small h b = pick (eqb (mapping_unit l h) m)
    where
      pick : (t : Bool) → Small (cond t 1 0) (cond t (part_at l c h b i) nil)
      pick true = part_small l c h b i
      pick false = (omega arith, omega arith)

  pub sum-small : (bit : ℕ → ℕ) (hs : List Hi) (k : ℕ) → Small (count_in l m hs) (sum_at l c m bit i hs k)
  unfolding sum_at count_in
  sum-small bit [] k = (omega arith, omega arith)
  sum-small bit (h ∷ hs) k =
      plus-small (cond (eqb (mapping_unit l h) m) 1 0) (count_in l m hs) (added_at l c m h (bit k) i) (sum_at l c m bit i hs (suc k)) (added-small h (bit k)) (sum-small bit hs (suc k))

-- ---- "an empty unit still owns its elements, with sum 0"
none-sum : (l : ℕ) (c : ℕ → ℕ) (m : ℕ) (bit : ℕ → ℕ) (i : ℕ) (hs : List Hi) (k : ℕ) → count_in l m hs ≡ 0 → sum_at l c m bit i hs k ≡ nil
unfolding sum_at added_at count_in
none-sum l c m bit i [] k e = refl
none-sum l c m bit i (h ∷ hs) k e = pick (eqb (mapping_unit l h) m) e (λ z. none-sum l c m bit i hs (suc k) z)
  where
    pick : (t : Bool) → cond t 1 0 + count_in l m hs ≡ 0 → (count_in l m hs ≡ 0 → sum_at l c m bit i hs (suc k) ≡ nil) → plus (cond t (part_at l c h (bit k) i) nil)
        (sum_at l c m bit i hs (suc k)) ≡ nil
    pick true z ih = absurd (omega arith)
    pick false z ih = ap (plus nil) (ih (omega arith))

pub empty : (l : ℕ) (c : ℕ → ℕ) (m : ℕ) (bit : ℕ → ℕ) (hs : List Hi) → count_in l m hs ≡ 0 → mapping_unit_sums l c m bit hs ≡ table 12 (λ i. nil)
unfolding mapping_unit_sums
empty l c m bit hs e = table_same 12 _ _ (λ i. none-sum l c m bit i hs 0 e)

-- ---- the same bits of a unit's HIs make the same sums
pub agreed :
    (l : ℕ) (c : ℕ → ℕ) (m : ℕ) (bit bit' : ℕ → ℕ) (i : ℕ) (hs : List Hi) (k : ℕ) → ((n : ℕ) → n < length hs → mapping_unit l (hi_number hs n) ≡ m → bit (k + n) ≡ bit' (k + n))
    → sum_at l c m bit i hs k ≡ sum_at l c m bit' i hs k
unfolding sum_at added_at
agreed l c m bit bit' i [] k h = refl
agreed l c m bit bit' i (g ∷ hs) k h =
    ap₂ plus (pick (ℕ_discrete (mapping_unit l g) m))
    (agreed l c m bit bit' i hs (suc k) (λ n r u. let e : k + suc n ≡ suc k + n = omega arith in subst (λ (x : ℕ). bit x ≡ bit' x) e (h (suc n) (suc-le-suc r) u)))
  where
    pick : Dec (mapping_unit l g ≡ m) → added_at l c m g (bit k) i ≡ added_at l c m g (bit' k) i
    pick (yes e) =
        let z : k + 0 ≡ k = omega arith in
        ap (λ (b : ℕ). cond (eqb (mapping_unit l g) m) (part_at l c g b i) nil) (subst (λ (x : ℕ). bit x ≡ bit' x) z (h 0 (suc-le-suc zero-le) e))
    pick (no e) = simp (ne_eqb _ _ e)

pub same-sums : (l : ℕ) (c : ℕ → ℕ) (m : ℕ) (bit bit' : ℕ → ℕ) (hs : List Hi) → SameHiBits l m hs bit bit' → mapping_unit_sums l c m bit hs ≡ mapping_unit_sums l c m bit' hs
unfolding SameHiBits mapping_unit_sums
same-sums l c m bit bit' hs same =
    table_same 12 _ _ (λ i. agreed l c m bit bit' i hs 0 (λ n r u. let z : 0 + n ≡ n = omega arith in rw z (same n r u)))

module _ (l : ℕ) (ok : Length l) (c : ℕ → ℕ) (hs : List Hi) (w : Within l hs) (d : Distinct hs) where
  at_place : (m : ℕ) (bit : ℕ → ℕ) (i : ℕ) → i < 12 → get_or (mapping_unit_sums l c m bit hs) i nil ≡ sum_at l c m bit i hs 0
  unfolding mapping_unit_sums
  at_place m bit i r = table_at 12 (λ j. sum_at l c m bit j hs 0) nil i r

  -- each sum is at most eight either way
  pub small : (m : ℕ) (bit : ℕ → ℕ) (i : ℕ) → i < 12 → Small 8 (get_or (mapping_unit_sums l c m bit hs) i nil)
  small m bit i r = rw (at_place m bit i r) (let s = sum-small l c m i bit hs 0 in (omega (arith, s.0, few l ok m hs w d), omega (arith, s.1, few l ok m hs w d)))

  -- THE LAW: the bit of each HI is read back from its unit's sums
  pub recovered : (bit : ℕ → ℕ) (n : ℕ) → bit n ≤ 1 → n < length hs → bit_in l c (hi_number hs n) (mapping_unit_sums l c (mapping_unit l (hi_number hs n)) bit hs) ≡ bit n
  unfolding bit_in
  recovered bit n b r =
      ap below (along-same l c (hi_number hs n) _ (λ i. sum_at l c (mapping_unit l (hi_number hs n)) bit i hs 0) (λ i k. at_place (mapping_unit l (hi_number hs n)) bit i (omega arith)))
      ∙ below-along l ok c hs n w d bit b r

  -- and so a unit's sums are the same exactly where its bits are
  pub exactly : (m : ℕ) (bit bit' : ℕ → ℕ) → ((n : ℕ) → bit n ≤ 1) → ((n : ℕ) → bit' n ≤ 1) → (mapping_unit_sums l c m bit hs ≡ mapping_unit_sums l c m bit' hs) ↔ SameHiBits l m hs bit bit'
  unfolding SameHiBits
  exactly m bit bit' b b' = (
    (λ e n r u. sym (recovered bit n (b n) r) ∙ ap (bit_in l c (hi_number hs n)) (rw u e) ∙ recovered bit' n (b' n) r),
    (λ same. same-sums l c m bit bit' hs same),
  )
