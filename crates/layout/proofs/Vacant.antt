-- The groups that PCFICH and PHICH leave vacant: which they are by their number, how many stand below a group of their symbol, without a list
-- of them, and how many the control region has. Assumes six blocks and at most twelve sixths.
use Rattle.std.specs.Prelude.{if◌then◌else◌}
use Prim.Native.Nat.{ℕ, zero, suc, ◌+◌, ◌-◌, ◌*◌, ◌/◌, ◌≤◌, ◌<◌}
use mathlib.Core.Path.{◌≡◌, refl, sym, ap, ap₂, ◌∙◌}
use mathlib.Core.Bool.{Bool, true, false, not, ◌&&◌}
use native.Mathlib.Omega.{arith}
use native.Mathlib.Nat.{suc-mul, mul-le-mul_right}
use lib.Dec.{leb, ltb, eqb}
use borrow.Author.Tests.{lt-ltb, leb-true, ltb-true}
use Rattle.base.specs.Choice.{indicator}
use Rattle.base.specs.Counts.{cnt, some_of}
use Rattle.base.specs.Ring.{past}
use Rattle.base.proofs.Tests.{by-test, clash, is_false}
use Rattle.base.proofs.Some.{passed, which-passed}
use Rattle.base.proofs.Counts.{cnt-none, cnt-same, cnt-le, cnt-empty}
use Rattle.base.proofs.Columns.{more, cnt-through}
use Rattle.base.proofs.Ring as ring
use Rattle.plan.specs.Fields.{mapping_units, symbol_groups}
use Rattle.plan.specs.declared.Cell.{Cell}
use Rattle.plan.proofs.Listed.{and_left, and_right}
use Rattle.layout.specs.Rules.{quad_symbol, is_left, groups_left, start_number, quad_number, quad_group, mapping_unit_has}
use Rattle.layout.specs.Region.{is_vacant}
use Rattle.layout.specs.Chain.{number, quad_in, unit_at, number_at, is_idle, quads_below, taken_below, vacant_below}
use Rattle.layout.specs.declared.Owner.{Owner}
use Rattle.layout.proofs.Groups.{left-some, number_small}
use Rattle.layout.proofs.Units.{units-fit, unit-number, group-of-number, unit-quad, quad-unit, number-taken, number-sound}

-- all pass just one of four tests
all_one :
    (f a b d : ℕ → Bool) → ((n : ℕ) → indicator (f n) + indicator (a n) + indicator (b n) + indicator (d n) ≡ 1)
    → (x : ℕ) → cnt f x + cnt a x + cnt b x + cnt d x ≡ x
all_one f a b d h zero = let p = cnt-none f in let q = cnt-none a in let r = cnt-none b in let t = cnt-none d in omega arith
all_one f a b d h (suc x) =
    let i = indicator (f x) in
    let j = indicator (a x) in
    let k = indicator (b x) in
    let l = indicator (d x) in
    let one : i + j + k + l ≡ 1 = h x in
    let u : cnt f x + i ≡ cnt f (suc x) = more f x in
    let v : cnt a x + j ≡ cnt a (suc x) = more a x in
    let w : cnt b x + k ≡ cnt b (suc x) = more b x in
    let z : cnt d x + l ≡ cnt d (suc x) = more d x in
    let before = all_one f a b d h x in
    omega arith

module _ (c : Cell) (few : c.sixths ≤ 12) (big : 6 ≤ c.blocks) where
  abbrev M : ℕ
  M = mapping_units c

  -- some unit has group t of symbol s
  abbrev units_have : ℕ → ℕ → Bool
  units_have s t = some_of (λ (m : ℕ). mapping_unit_has c m s t) M

  -- number n of the groups left in symbol s is no unit's
  abbrev pub free_number : ℕ → ℕ → Bool
  free_number s n = is_idle (number_at c s n)

  module _ (s t : ℕ) (in-t : t < symbol_groups c s) (left : is_left c s t ≡ true) where
    taken-number : units_have s t ≡ true → free_number s (number c s t) ≡ false
    unfolding is_idle
    taken-number e =
        let p = which-passed (λ (m : ℕ). mapping_unit_has c m s t) M e in
        let q = unit-quad c p.0 s t p.2 in
        ap is_idle
        (number-taken c big (units-fit c few big) s (number c s t) p.0 p.1
        (q.0, q.1, sym q.2, ap₂ (number c) q.2 q.3 ∙ unit-number c big p.0 q.0))

    number-free : free_number s (number c s t) ≡ false → units_have s t ≡ true
    unfolding is_idle
    number-free =
        number-sound c big (units-fit c few big) s (number c s t) (λ (o : Owner). is_idle o ≡ false → units_have s t ≡ true) (λ e. clash refl e) (number_small c big s t in-t left)
        (λ m l k e. passed (λ (m : ℕ). mapping_unit_has c m s t) M m l (quad-unit c m s t (k.0, k.1, sym k.2, group m k.0 k.2 k.3)))
      where
        group : (m i : ℕ) → quad_symbol c i ≡ s → number c s t ≡ quad_number c m i → t ≡ quad_group c m i
        group m i es en =
            group-of-number c big m i t (omega (arith, in-t, ap (symbol_groups c) es)) (ap (λ (s : ℕ). is_left c s t) es ∙ left) (ap (λ (s : ℕ). number c s t) es ∙ en)

    free-left : not (units_have s t) ≡ free_number s (number c s t)
    free-left =
        by-test (units_have s t)
        (λ e. rw e (sym (taken-number e)))
        (λ e. rw e (sym (by-test (free_number s (number c s t)) (λ u. u) (λ u. clash (number-free u) e))))

  -- a group is vacant just where it is left and its number is no unit's
  vacant-number : (s t : ℕ) → t < symbol_groups c s → is_vacant c s t ≡ is_left c s t && free_number s (number c s t)
  unfolding is_vacant
  vacant-number s t l = rw (lt-ltb t (symbol_groups c s) l) (by-test (is_left c s t) (λ e. rw e (free-left s t l e)) (λ e. rw e refl))

  vacant-count : (s t : ℕ) → t ≤ symbol_groups c s → cnt (is_vacant c s) t ≡ cnt (free_number s) (number c s t)
  vacant-count s t l =
      cnt-same (is_vacant c s) (λ (t : ℕ). is_left c s t && free_number s (cnt (is_left c s) t)) t (λ x h. vacant-number s x (omega arith))
      ∙ cnt-through (is_left c s) (free_number s) t

  -- ---- how many numbers below x are no unit's
  module _ (s : ℕ) where
    abbrev h : ℕ
    h = groups_left c s

    abbrev far : ℕ → ℕ
    far n = past (start_number c s) h n

    abbrev quad_at : ℕ → ℕ → Bool
    quad_at i n = quad_in c s (far n) i

    -- two quads take no number both
    never : (d i j : ℕ) → i < j → j < 3 → quad_in c s d i ≡ true → quad_in c s d j ≡ true → ⊥
    unfolding quad_in
    never d i j l u e w =
        let a = i * h / 3 in
        let b = j * h / 3 in
        let x = and_right (eqb (quad_symbol c i) s) (leb a d && ltb d (a + M)) e in
        let y = and_right (eqb (quad_symbol c j) s) (leb b d && ltb d (b + M)) w in
        let p = ltb-true d (a + M) (and_right (leb a d) (ltb d (a + M)) x) in
        let q = leb-true b d (and_left (leb b d) (ltb d (b + M)) y) in
        let m : i * h + h ≤ j * h = rw (← suc-mul i h) (mul-le-mul_right h l) in
        omega (arith, units-fit c few big s)

    one-test : (d : ℕ) → indicator (is_idle (unit_at c s d 3)) + indicator (quad_in c s d 0) + indicator (quad_in c s d 1) + indicator (quad_in c s d 2) ≡ 1
    unfolding unit_at is_idle
    one-test d =
        by-test (quad_in c s d 2)
        (λ e. rw (e, is_false (quad_in c s d 1) (λ w. never d 1 2 (omega arith) (omega arith) w e), is_false (quad_in c s d 0) (λ w. never d 0 2 (omega arith) (omega arith) w e)) refl)
        (λ e. by-test (quad_in c s d 1)
        (λ w. rw (e, w, is_false (quad_in c s d 0) (λ v. never d 0 1 (omega arith) (omega arith) v w)) refl)
        (λ w. by-test (quad_in c s d 0) (λ v. rw (e, w, v) refl) (λ v. rw (e, w, v) refl)))

    quad-test : (i n : ℕ) → quad_at i n ≡ eqb (quad_symbol c i) s && ring.within (start_number c s) h (i * h / 3) M n
    unfolding quad_in
    quad-test i n = refl

    third-fits : (i : ℕ) → i < 3 → i * h / 3 + M ≤ h
    third-fits i l = let y : i * h ≤ 2 * h = mul-le-mul_right h (omega arith) in omega (arith, units-fit c few big s)

    quads-count : (i : ℕ) → i < 3 → (x : ℕ) → x ≤ h → cnt (quad_at i) x ≡ quads_below c s x i
    unfolding quads_below
    quads-count i l x u =
        by-test (eqb (quad_symbol c i) s)
        (λ e. rw e
        (cnt-same (quad_at i) (ring.within (start_number c s) h (i * h / 3) M) x (λ n m. quad-test i n ∙ rw e refl)
        ∙ ring.ring-count (start_number c s) h (i * h / 3) M (left-some c big s) (third-fits i l) x u))
        (λ e. rw e (cnt-same (quad_at i) (λ (n : ℕ). false) x (λ n m. quad-test i n ∙ rw e refl) ∙ cnt-empty x))

    free-count : (x : ℕ) → x ≤ h → cnt (free_number s) x + taken_below c s x ≡ x
    unfolding taken_below number_at
    free-count x l =
        let a = quads-count 0 (omega arith) x l in
        let b = quads-count 1 (omega arith) x l in
        let d = quads-count 2 (omega arith) x l in
        let one = all_one (λ (n : ℕ). is_idle (unit_at c s (far n) 3)) (quad_at 0) (quad_at 1) (quad_at 2) (λ n. one-test (far n)) x in
        omega arith

  -- of the groups left below group t no more are taken than there are
  pub taken-few : (s t : ℕ) → t ≤ symbol_groups c s → taken_below c s (number c s t) ≤ number c s t
  unfolding groups_left
  taken-few s t l = omega (arith, free-count s (number c s t) (cnt-le (is_left c s) t (symbol_groups c s) l))

  -- THE COUNT of the vacant groups of symbol s below group t
  pub vacant-below : (s t : ℕ) → t ≤ symbol_groups c s → cnt (is_vacant c s) t ≡ vacant_below c s t
  unfolding vacant_below groups_left
  vacant-below s t l = let x = free-count s (number c s t) (cnt-le (is_left c s) t (symbol_groups c s) l) in let y = vacant-count s t l in omega arith

  -- ---- all of a symbol
  -- a unit's quad i takes one there, or none
  abbrev pub share : ℕ → ℕ → ℕ
  share i s = if eqb (quad_symbol c i) s then M else 0

  quads-all : (s i : ℕ) → i < 3 → quads_below c s (groups_left c s) i ≡ share i s
  unfolding quads_below
  quads-all s i l =
      by-test (eqb (quad_symbol c i) s)
      (λ e. rw e (ring.ring-all (start_number c s) (groups_left c s) (i * groups_left c s / 3) M (left-some c big s) (third-fits s i l)))
      (λ e. rw e refl)

  pub vacant-all : (s : ℕ) → vacant_below c s (symbol_groups c s) + (share 0 s + share 1 s + share 2 s) ≡ groups_left c s
  unfolding vacant_below groups_left taken_below
  vacant-all s =
      let x = free-count s (groups_left c s) (omega arith) in
      let a = quads-all s 0 (omega arith) in
      let b = quads-all s 1 (omega arith) in
      let d = quads-all s 2 (omega arith) in
      omega arith
