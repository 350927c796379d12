-- Control groups: how many pairs (symbol, group) a channel of quads has, and a group's four places in any symbol. Assumes six blocks, and
-- that the units fill at most a third of the numbers.
use Prim.Native.Nat.{ℕ, zero, suc, ◌+◌, ◌*◌, ◌/◌, ◌%◌, ◌≤◌, ◌<◌}
use mathlib.Core.Path.{◌≡◌, refl, sym, ap, ◌∙◌}
use mathlib.Core.Bool.{Bool, true, false, not, ◌&&◌, ◌||◌, and-true, and-false}
use native.Mathlib.Omega.{arith}
use lib.Dec.{T, ltb, eqb, eqb→eq}
use borrow.Author.Tests.{lt-ltb, le-ltb, eqb-true, eqb-false, ltb-true, ltb-false}
use Rattle.base.proofs.Tests.{by-test}
use Rattle.base.specs.Counts.{some_of}
use Rattle.base.proofs.Some.{which-passed}
use Rattle.base.proofs.Computed.{all_below, below_at}
use Rattle.plan.specs.Fields.{mapping_units, symbol_groups}
use Rattle.plan.specs.declared.Cell.{Cell}
use Rattle.plan.proofs.Listed.{and_left, and_right}
use Rattle.base.specs.Choice.{indicator}
use Rattle.base.specs.Counts.{cnt}
use Rattle.layout.specs.Rules.{element_group, in_group, format_group, is_format, format_has, quad_symbol, groups_left, quad_group, quad_has, mapping_unit_has}
use Rattle.layout.specs.Owners.{symbols, carriers}
use Rattle.layout.proofs.Pilot.{slot-length}
use Rattle.layout.proofs.GroupShape.{by_size, first-groups, quad-low}
use Rattle.layout.proofs.Groups.{format_small, format-once}
use Rattle.layout.proofs.Units.{unit-small, units-apart, quads-some}
use Rattle.base.specs.Sums.{sum_to}
use Rattle.base.proofs.Sums.{sum_same, sum-none, sum-add, sum-times, cnt-sum, blocks}

-- ---- how many pairs (s, t), s below S and t below G s, pass a test
one_hit : (n a : ℕ) → sum_to n (λ j. indicator (eqb j a)) ≡ indicator (ltb a n)
unfolding sum_to
one_hit zero a = rw (le-ltb a 0 (omega arith)) refl
one_hit (suc n) a =
    by-test (eqb n a)
    (λ e. let z : n ≡ a = eqb-true n a e in rw (one_hit n a, e, le-ltb a n (omega arith), lt-ltb a (suc n) (omega arith)) refl)
    (λ e. let z : (n ≡ a) → ⊥ = eqb-false n a e in by-test (ltb a n)
    (λ w. let v : a < n = ltb-true a n w in rw (one_hit n a, e, w, lt-ltb a (suc n) (omega arith)) refl)
    (λ w. let v : n ≤ a = ltb-false a n w in rw (one_hit n a, e, w, le-ltb a (suc n) (omega arith)) refl))

one_only : (n a : ℕ) → a < n → sum_to n (λ j. indicator (eqb j a)) ≡ 1
one_only n a l = one_hit n a ∙ rw (lt-ltb a n l) refl

either : (x y : Bool) → (x ≡ true → y ≡ true → ⊥) → indicator (x || y) ≡ indicator x + indicator y
either true true n = absurd (n refl refl)
either true false n = refl
either false true n = refl
either false false n = refl

module _ (S : ℕ) (G : ℕ → ℕ) where
  abbrev pub pairs : (ℕ → ℕ → Bool) → ℕ
  pairs test = sum_to S (λ s. sum_to (G s) (λ t. indicator (test s t)))

  pairs-same : (f g : ℕ → ℕ → Bool) → ((s t : ℕ) → f s t ≡ g s t) → pairs f ≡ pairs g
  pairs-same f g h = sum_same S _ _ (λ s l. sum_same (G s) _ _ (λ t m. ap indicator (h s t)))

  pairs-none : pairs (λ (s t : ℕ). false) ≡ 0
  pairs-none = sum-none S _ (λ s l. sum-none (G s) _ (λ t m. refl))

  pair_one : (a b : ℕ) → a < S → b < G a → pairs (λ (s t : ℕ). eqb s a && eqb t b) ≡ 1
  pair_one a b l m =
      sum_same S _ (λ s. indicator (eqb s a))
      (λ s u. by-test (eqb s a)
      (λ e. let z = eqb-true s a e in rw e (one_only (G s) b (rw (← z) at m)))
      (λ e. rw e (sum-none (G s) _ (λ t v. refl))))
      ∙ one_only S a l

  pairs-either : (f g : ℕ → ℕ → Bool) → ((s t : ℕ) → f s t ≡ true → g s t ≡ true → ⊥) → pairs (λ (s t : ℕ). f s t || g s t) ≡ pairs f + pairs g
  pairs-either f g n =
      sum_same S _ _ (λ s l. sum_same (G s) _ _ (λ t m. either (f s t) (g s t) (n s t)) ∙ sym (sum-add (G s) (λ t. indicator (f s t)) (λ t. indicator (g s t))))
      ∙ sym (sum-add S (λ s. sum_to (G s) (λ t. indicator (f s t))) (λ s. sum_to (G s) (λ t. indicator (g s t))))

  -- as many as quads, which are in different groups
  module _ (symbol group : ℕ → ℕ) where
    abbrev pub is_quad : ℕ → ℕ → ℕ → Bool
    is_quad s t i = eqb s (symbol i) && eqb t (group i)

    pub quad-hits :
        (n : ℕ) → ((i : ℕ) → i < n → (symbol i < S) × (group i < G (symbol i)))
        → ((i j : ℕ) → i < n → j < n → symbol i ≡ symbol j → group i ≡ group j → i ≡ j)
        → pairs (λ (s t : ℕ). some_of (is_quad s t) n) ≡ n
    quad-hits zero small apart = pairs-none
    quad-hits (suc n) small apart =
        pairs-either (λ (s t : ℕ). some_of (is_quad s t) n) (λ (s t : ℕ). is_quad s t n) other
        ∙ (let last = small n (omega arith) in
        rw (quad-hits n (λ i l. small i (omega arith)) (λ i j l m. apart i j (omega arith) (omega arith)), pair_one (symbol n) (group n) last.0 last.1) (omega arith))
      where
        same : (s t i : ℕ) → is_quad s t i ≡ true → (s ≡ symbol i) × (t ≡ group i)
        same s t i e = (eqb-true s (symbol i) (and_left (eqb s (symbol i)) (eqb t (group i)) e), eqb-true t (group i) (and_right (eqb s (symbol i)) (eqb t (group i)) e))

        other : (s t : ℕ) → some_of (is_quad s t) n ≡ true → is_quad s t n ≡ true → ⊥
        other s t e d =
            let q = which-passed (is_quad s t) n e in
            let x = same s t q.0 q.2 in
            let y = same s t n d in
            let z : q.0 ≡ n = apart q.0 n (omega (arith, q.1)) (omega arith) (sym x.0 ∙ y.0) (sym x.1 ∙ y.1) in
            (let v : ⊥ = omega (arith, z, q.1) in v)

-- ---- PCFICH's quads have four groups, a PHICH unit's three
format-some : (c : Cell) (s t : ℕ) → format_has c s t ≡ some_of (λ (i : ℕ). eqb s 0 && eqb t (format_group c i)) 4
unfolding format_has is_format
format-some c s t = by-test (eqb s 0) (λ e. rw e refl) (λ e. rw e refl)

unit-some : (c : Cell) (m s t : ℕ) → mapping_unit_has c m s t ≡ some_of (λ (i : ℕ). eqb s (quad_symbol c i) && eqb t (quad_group c m i)) 3
unfolding quad_has
unit-some c m s t = quads-some c m s t

module _ (c : Cell) (big : 6 ≤ c.blocks) where
  pub four-formats : pairs (symbols c) (symbol_groups c) (format_has c) ≡ 4
  four-formats =
      pairs-same (symbols c) (symbol_groups c) _ _ (format-some c)
      ∙ quad-hits (symbols c) (symbol_groups c) (λ (i : ℕ). 0) (format_group c) 4
      (λ i l. (omega (arith, slot-length c), omega (arith, format_small c big i, first-groups c)))
      (λ i j l m a b. format-once c big i j l m b)

  pub three-groups : ((s : ℕ) → mapping_units c ≤ groups_left c s / 3) → (m : ℕ) → m < mapping_units c → pairs (symbols c) (symbol_groups c) (mapping_unit_has c m) ≡ 3
  three-groups fit m l =
      pairs-same (symbols c) (symbol_groups c) _ _ (unit-some c m)
      ∙ quad-hits (symbols c) (symbol_groups c) (quad_symbol c) (quad_group c m) 3
      (λ i u. (omega (arith, slot-length c, quad-low c i), unit-small c big m i))
      (λ i j u v a b. (units-apart c big fit m m i j l l u v a b).1)

-- ---- a group's four places, v is C mod 3
abbrev four_of : ℕ → ℕ → Bool
four_of z v = eqb (sum_to z (λ r. indicator (eqb z 4 || not (eqb (r % 3) v)))) 4

six-kept : T (all_below (four_of 6) 3)
unfolding sum_to
six-kept = tt

four-kept : T (all_below (four_of 4) 3)
unfolding sum_to
four-kept = tt

one-group : (z : ℕ) (t : ℕ → Bool) (g : Bool) → sum_to z (λ r. indicator (t r)) ≡ 4 → sum_to z (λ r. indicator (t r && g)) ≡ indicator g * 4
one-group z t true e = sum_same z _ _ (λ r l. ap indicator (and-true (t r))) ∙ e
one-group z t false e = sum-none z _ (λ r l. ap indicator (and-false (t r)))

-- what has some groups of a symbol has four places of each
pub group-row : (c : Cell) (s : ℕ) (G : ℕ → Bool) → sum_to (carriers c) (λ k. indicator (in_group c s k && G (element_group c s k))) ≡ sum_to (symbol_groups c s) (λ t. indicator (G t)) * 4
unfolding in_group element_group symbol_groups
group-row c s G =
    by_size (λ (z : ℕ). sum_to (carriers c) (λ k. indicator ((eqb z 4 || not (eqb (k % 3) (c.identity % 3))) && G (k / z))) ≡ sum_to (12 * c.blocks / z) (λ t. indicator (G t)) * 4) c s
    (row 6 (2 * c.blocks) (omega arith) (omega arith) six-kept (λ b r l. (omega arith, λ n. let x : (6 * b + r) % 3 ≡ r % 3 = omega arith in x)))
    (row 4 (3 * c.blocks) (omega arith) (omega arith) four-kept (λ b r l. (omega arith, λ n. absurd (n refl))))
  where
    kept : ℕ → ℕ → Bool
    kept z r = eqb z 4 || not (eqb (r % 3) (c.identity % 3))

    row : (z n : ℕ) → carriers c ≡ z * n → 12 * c.blocks / z ≡ n → T (all_below (four_of z) 3) → ((b r : ℕ) → r < z → ((z * b + r) / z ≡ b) × ((z ≡ 4 → ⊥) → (z * b + r) % 3 ≡ r % 3))
        → sum_to (carriers c) (λ k. indicator (kept z k && G (k / z))) ≡ sum_to (12 * c.blocks / z) (λ t. indicator (G t)) * 4
    row z n en eg four at =
        rw (eg, en)
        (blocks z n (λ k. indicator (kept z k && G (k / z)))
        ∙ sum_same n _ (λ b. indicator (G b) * 4)
        (λ b l. sum_same z _ (λ r. indicator (kept z r && G b)) (λ r m. rw ((at b r m).0, on b r m) refl)
        ∙ one-group z (kept z) (G b) (eqb→eq _ 4 (below_at (four_of z) 3 four (c.identity % 3) (omega arith))))
        ∙ sum-times n 4 (λ b. indicator (G b)))
      where
        on : (b r : ℕ) → r < z → kept z (z * b + r) ≡ kept z r
        on b r m = by-test (eqb z 4) (λ e. rw e refl) (λ e. rw ((at b r m).1 (eqb-false z 4 e)) refl)

-- THE LAW: a group of any symbol has four places
pub group-four : (c : Cell) (s t : ℕ) → t < symbol_groups c s → cnt (λ (k : ℕ). in_group c s k && eqb (element_group c s k) t) (carriers c) ≡ 4
group-four c s t l =
    cnt-sum (λ (k : ℕ). in_group c s k && eqb (element_group c s k) t) (carriers c)
    ∙ group-row c s (λ (b : ℕ). eqb b t)
    ∙ rw (one_only (symbol_groups c s) t l) refl
