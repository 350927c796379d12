-- PHICH: a unit's quads have the groups left whose numbers they take, each in its symbol; no two quads of any two units take one number, in
-- either duration; and unit_at names the unit that takes a number. Assumes six blocks.
use Prim.Native.Nat.{ℕ, zero, suc, ◌+◌, ◌-◌, ◌*◌, ◌/◌, ◌%◌, ◌≤◌, ◌<◌}
use mathlib.Core.Path.{◌≡◌, refl, sym, ap, ◌∙◌}
use mathlib.Core.Bool.{true, false, ◌&&◌, and-false}
use native.Mathlib.Omega.{arith}
use native.Mathlib.Nat.{not-suc-le-zero, mod-lt, suc-mul, mul-le-mul_right, mul-div_cancel, add_assoc}
use native.Mathlib.Decide.{dec_le, ℕ_discrete}
use lib.Dec.{leb, ltb, eqb}
use borrow.Author.Tests.{eq-eqb, lt-ltb, le-leb, lt-leb, eqb-true, ltb-true, leb-true}
use Rattle.base.proofs.Tests.{both, on-if}
use Rattle.base.specs.Counts.{some_of}
use Rattle.base.proofs.Some.{passed, which-passed}
use Rattle.base.specs.Counts.{nth}
use Rattle.base.proofs.Counts.{nth-is, nth_of}
use Rattle.base.specs.Ring.{past}
use Rattle.base.proofs.Ring as ring
use Rattle.layout.specs.Rules.{element_group, in_group, quad_symbol, is_left, groups_left, start_number, quad_number, quad_group, quad_has, mapping_unit_has, phich}
use Rattle.layout.specs.Chain.{number, quad_in, unit_at, number_at}
use Rattle.plan.specs.Fields.{mapping_units, symbol_groups}
use Rattle.plan.specs.declared.Cell.{Cell}
use Rattle.layout.specs.declared.Owner.{Owner}
use Rattle.layout.specs.declared.Owner.TheVariants.{Phich, Idle}
use Rattle.plan.proofs.Listed.{and_left, and_right}
use Rattle.layout.proofs.GroupShape.{quad-normal}
use Rattle.layout.proofs.Groups.{left-first, left-least, left-some}

-- the units fill at most a third of the numbers of any symbol
pub units-fit : (c : Cell) → c.sixths ≤ 12 → 6 ≤ c.blocks → (s : ℕ) → mapping_units c ≤ groups_left c s / 3
unfolding mapping_units
units-fit c l m s = omega (arith, mul-le-mul_right c.blocks l, left-least c m s)

-- numbers in thirds of h: the i-th begins at i·h/3
module _ (h m i : ℕ) (third : m < h / 3) where
  third-in : i < 3 → m + i * h / 3 < h
  third-in l = let y : i * h ≤ 2 * h = mul-le-mul_right h (omega arith) in omega arith

  third-after : (j : ℕ) → i < j → m + i * h / 3 < j * h / 3
  third-after j l = let z : i * h + h ≤ j * h = rw (← suc-mul i h) (mul-le-mul_right h l) in omega arith

same-third : (h m m' i i' : ℕ) → m < h / 3 → m' < h / 3 → m + i * h / 3 ≡ m' + i' * h / 3 → i ≡ i'
same-third h m m' i i' l l' e = go (dec_le (suc i) i') (dec_le (suc i') i)
  where
    go : Dec (suc i ≤ i') → Dec (suc i' ≤ i) → i ≡ i'
    go (yes u) q = absurd (let n : ⊥ = omega (arith, third-after h m i l i' u) in n)
    go (no u) (yes v) = absurd (let n : ⊥ = omega (arith, third-after h m' i' l' i v) in n)
    go (no u) (no v) = omega arith

-- ---- the groups of a unit's quads
module _ (c : Cell) (big : 6 ≤ c.blocks) where
  -- the symbol of quad i, and how many groups are left there
  abbrev S : ℕ → ℕ
  S i = quad_symbol c i

  abbrev h : ℕ → ℕ
  h i = groups_left c (quad_symbol c i)

  pub number_lt : (m i : ℕ) → quad_number c m i < h i
  unfolding quad_number
  number_lt m i = mod-lt (start_number c (S i) + m + i * h i / 3) (left-some c big (S i))

  -- document 01's rule, with the normal duration: "(C+m+floor(ih/3)) mod h", h = 2N−4
  pub normal-number : (c.duration ≡ 1 → ⊥) → (m i : ℕ) → quad_number c m i ≡ (c.identity + m + i * (2 * c.blocks - 4) / 3) % (2 * c.blocks - 4)
  unfolding quad_number start_number
  normal-number n m i =
      let g = 2 * c.blocks - 4 in
      rw (quad-normal c i n, left-first c big) (ap (λ (x : ℕ). (x + m + i * g / 3) % g) (mul-div_cancel c.identity {n = g} (omega arith)))

  numbered : (m i : ℕ) → (is_left c (S i) (quad_group c m i) ≡ true) × (quad_group c m i < symbol_groups c (S i)) × (number c (S i) (quad_group c m i) ≡ quad_number c m i)
  unfolding quad_group groups_left
  numbered m i = nth-is (is_left c (S i)) (symbol_groups c (S i)) (quad_number c m i) (number_lt m i)

  -- the group of quad i is left, and has its number
  pub unit_left : (m i : ℕ) → is_left c (S i) (quad_group c m i) ≡ true
  unit_left m i = (numbered m i).0

  pub unit-small : (m i : ℕ) → quad_group c m i < symbol_groups c (S i)
  unit-small m i = (numbered m i).1

  pub unit-number : (m i : ℕ) → number c (S i) (quad_group c m i) ≡ quad_number c m i
  unit-number m i = (numbered m i).2

  -- and is the one left with that number
  pub group-of-number : (m i t : ℕ) → t < symbol_groups c (S i) → is_left c (S i) t ≡ true → number c (S i) t ≡ quad_number c m i → t ≡ quad_group c m i
  unfolding quad_group
  group-of-number m i t l e n = sym (nth_of (is_left c (S i)) (symbol_groups c (S i)) t e l) ∙ ap (nth (is_left c (S i)) (symbol_groups c (S i))) n

  -- how far the number of quad i lies past the start
  past_of-unit : (m i n : ℕ) → m + i * h i / 3 < h i → n ≡ quad_number c m i → past (start_number c (S i)) (h i) n ≡ m + i * h i / 3
  unfolding quad_number
  past_of-unit m i n l e =
      ring.past_of (start_number c (S i)) (h i) (left-some c big (S i)) (m + i * h i / 3) n l
      (e ∙ ap (λ (x : ℕ). x % h i) (add_assoc (start_number c (S i)) m (i * h i / 3)))

  -- THE LAW OF UNITS, for both durations: quads that have one group of one symbol are one quad of one unit
  module _ (fit : (s : ℕ) → mapping_units c ≤ groups_left c s / 3) where
    pub units-apart :
        (m m' i i' : ℕ) → m < mapping_units c → m' < mapping_units c → i < 3 → i' < 3
        → quad_symbol c i ≡ quad_symbol c i' → quad_group c m i ≡ quad_group c m' i' → (m ≡ m') × (i ≡ i')
    units-apart m m' i i' l l' u u' es eg = (omega (arith, around, ap (λ (x : ℕ). x * h i / 3) one), one)
      where
        a : m < h i / 3
        a = omega (arith, fit (S i))

        a' : m' < h i' / 3
        a' = omega (arith, fit (S i'))

        same : quad_number c m i ≡ quad_number c m' i'
        same = sym (unit-number m i) ∙ ap (λ (s : ℕ). number c s (quad_group c m i)) es ∙ ap (number c (S i')) eg ∙ unit-number m' i'

        around : m + i * h i / 3 ≡ m' + i' * h i / 3
        around =
            sym (past_of-unit m i (quad_number c m i) (third-in (h i) m i a u) refl)
            ∙ ap (λ (s : ℕ). past (start_number c s) (groups_left c s) (quad_number c m i)) es
            ∙ past_of-unit m' i' (quad_number c m i) (third-in (h i') m' i' a' u') same
            ∙ ap (λ (s : ℕ). m' + i' * groups_left c s / 3) (sym es)

        one : i ≡ i'
        one = same-third (h i) m m' i i' a (rw (← ap (groups_left c) es) at a') around

-- ---- the quads of a unit's rule
pub quads-some : (c : Cell) (m s t : ℕ) → mapping_unit_has c m s t ≡ some_of (quad_has c m s t) 3
unfolding mapping_unit_has
quads-some c m s t = refl

-- unit m has group t of symbol s: one of its quads lies there
abbrev pub QuadAt : Cell → ℕ → ℕ → ℕ → Type 0
QuadAt c m s t = (i : ℕ) × (i < 3) × (s ≡ quad_symbol c i) × (t ≡ quad_group c m i)

pub unit-quad : (c : Cell) (m s t : ℕ) → mapping_unit_has c m s t ≡ true → QuadAt c m s t
unfolding quad_has
unit-quad c m s t e =
    let q = which-passed (quad_has c m s t) 3 (sym (quads-some c m s t) ∙ e) in
    let i = q.0 in (
      i,
      q.1,
      eqb-true s (quad_symbol c i) (and_left (eqb s (quad_symbol c i)) (eqb t (quad_group c m i)) q.2),
      eqb-true t (quad_group c m i) (and_right (eqb s (quad_symbol c i)) (eqb t (quad_group c m i)) q.2),
    )

pub quad-unit : (c : Cell) (m s t : ℕ) → QuadAt c m s t → mapping_unit_has c m s t ≡ true
unfolding quad_has
quad-unit c m s t (i, l, es, et) = quads-some c m s t ∙ passed (quad_has c m s t) 3 i l (both (eq-eqb s (quad_symbol c i) es) (eq-eqb t (quad_group c m i) et))

-- the parts of a unit's rule
pub phich-parts : (c : Cell) (m s k : ℕ) → phich c m s k ≡ true → (m < mapping_units c) × (in_group c s k ≡ true) × QuadAt c m s (element_group c s k)
unfolding phich
phich-parts c m s k e =
    let a = ltb m (mapping_units c) in
    let b = in_group c s k in
    let u = mapping_unit_has c m s (element_group c s k) in
    let ab = and_left (a && b) u e in
    (ltb-true m (mapping_units c) (and_left a b ab), and_right a b ab, unit-quad c m s (element_group c s k) (and_right (a && b) u e))

-- NO UNIT OVERLAPS ANOTHER, in either duration
pub no-overlap : (c : Cell) → c.sixths ≤ 12 → 6 ≤ c.blocks → (m m' s k : ℕ) → phich c m s k ≡ true → phich c m' s k ≡ true → m ≡ m'
no-overlap c few big m m' s k e e' =
    let p = phich-parts c m s k e in
    let p' = phich-parts c m' s k e' in
    let q = p.2 in
    let q' = p'.2 in
    (units-apart c big (units-fit c few big) m m' q.0 q'.0 p.0 p'.0 q.1 q'.1 (sym q.2 ∙ q'.2) (sym q.3 ∙ q'.3)).0

-- ---- and unit_at names the unit that takes a number
module _ (c : Cell) (fit : (s : ℕ) → mapping_units c ≤ groups_left c s / 3) (s d : ℕ) where
  abbrev H : ℕ
  H = groups_left c s

  module _ (m i : ℕ) (in-m : m < mapping_units c) (es : quad_symbol c i ≡ s) (ed : d ≡ m + i * groups_left c s / 3) where
    quad-true : quad_in c s d i ≡ true
    unfolding quad_in
    quad-true = both (eq-eqb (quad_symbol c i) s es) (both (le-leb (i * H / 3) d (omega arith)) (lt-ltb d (i * H / 3 + mapping_units c) (omega arith)))

    quad-false : (j : ℕ) → i < j → quad_in c s d j ≡ false
    unfolding quad_in
    quad-false j l =
        rw (lt-leb (j * H / 3) d (omega (arith, third-after H m i (omega (arith, fit s)) j l))) (and-false (eqb (quad_symbol c j) s))

    quad-found : (n : ℕ) → i < n → unit_at c s d n ≡ Phich m
    unfolding unit_at
    quad-found zero l = absurd (not-suc-le-zero l)
    quad-found (suc n) l = go (ℕ_discrete i n) (λ u. quad-found n u)
      where
        go : Dec (i ≡ n) → (i < n → unit_at c s d n ≡ Phich m) → unit_at c s d (suc n) ≡ Phich m
        go (yes e) below = rw (← e, quad-true) (ap Phich (let z : d - i * H / 3 ≡ m = omega arith in z))
        go (no e) below = rw (quad-false n (omega arith)) (below (omega arith))

  -- whatever it names of the quads below n
  module _ (P : Owner → Type 0) (idle : P Idle) (unit : (m i : ℕ) → m < mapping_units c → i < 3 → quad_symbol c i ≡ s → d ≡ m + i * groups_left c s / 3 → P (Phich m)) where
    quad-sound : (n : ℕ) → n ≤ 3 → P (unit_at c s d n)
    unfolding unit_at quad_in
    quad-sound zero l = idle
    quad-sound (suc n) l =
        on-if P _
        (λ e. let a = n * H / 3 in
        let b = leb a d && ltb d (a + mapping_units c) in
        let t : b ≡ true = and_right (eqb (quad_symbol c n) s) b e in
        let x : a ≤ d = leb-true a d (and_left (leb a d) (ltb d (a + mapping_units c)) t) in
        let y : d < a + mapping_units c = ltb-true d (a + mapping_units c) (and_right (leb a d) (ltb d (a + mapping_units c)) t) in
        unit (d - a) n (omega arith) (omega arith) (eqb-true (quad_symbol c n) s (and_left (eqb (quad_symbol c n) s) b e)) (omega arith))
        (λ e. quad-sound n (omega arith))

-- unit m takes number n of the groups left in symbol s
abbrev pub Takes : Cell → ℕ → ℕ → ℕ → Type 0
Takes c m s n = (i : ℕ) × (i < 3) × (quad_symbol c i ≡ s) × (n ≡ quad_number c m i)

module _ (c : Cell) (big : 6 ≤ c.blocks) (fit : (s : ℕ) → mapping_units c ≤ groups_left c s / 3) (s n : ℕ) where
  pub number-taken : (m : ℕ) → m < mapping_units c → Takes c m s n → number_at c s n ≡ Phich m
  unfolding number_at
  number-taken m l (i, u, es, en) =
      quad-found c fit s (past (start_number c s) (groups_left c s) n) m i l es
      (ap (λ (s : ℕ). past (start_number c s) (groups_left c s) n) (sym es)
      ∙ past_of-unit c big m i n (third-in (groups_left c (quad_symbol c i)) m i (omega (arith, fit (quad_symbol c i))) u) en
      ∙ ap (λ (s : ℕ). m + i * groups_left c s / 3) es)
      3 u

  -- whatever number_at answers is a unit that takes the number, or idle
  pub number-sound : (P : Owner → Type 0) → P Idle → n < groups_left c s → ((m : ℕ) → m < mapping_units c → Takes c m s n → P (Phich m)) → P (number_at c s n)
  unfolding number_at quad_number
  number-sound P idle small unit =
      quad-sound c fit s (past C H₁ n) P idle (λ m i l u es ed. unit m l (i, u, es, taken m i es ed)) 3 (omega arith)
    where
      C : ℕ
      C = start_number c s

      H₁ : ℕ
      H₁ = groups_left c s

      taken : (m i : ℕ) → quad_symbol c i ≡ s → past C H₁ n ≡ m + i * H₁ / 3 → n ≡ quad_number c m i
      taken m i es ed =
          ring.of-past C H₁ (left-some c big s) n small ∙ ap (λ (x : ℕ). (C + x) % H₁) ed ∙ ap (λ (x : ℕ). x % H₁) (sym (add_assoc C m (i * H₁ / 3)))
          ∙ ap (λ (s : ℕ). (start_number c s + m + i * groups_left c s / 3) % groups_left c s) (sym es)
