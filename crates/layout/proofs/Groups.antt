-- PCFICH's four groups are different, and the groups left in each symbol are numbered below h. Assumes six blocks where symbol 0 counts.
use Prim.Native.Nat.{ℕ, zero, suc, ◌+◌, ◌-◌, ◌*◌, ◌/◌, ◌%◌, ◌≤◌, ◌<◌}
use mathlib.Core.Path.{◌≡◌, refl, sym, ap, ◌∙◌}
use mathlib.Core.Bool.{Bool, true, false, cond, not, ◌||◌}
use native.Mathlib.Omega.{arith}
use native.Mathlib.Nat.{mod-lt, suc-mul, mul-le-mul_right}
use lib.Dec.{ltb, eqb}
use borrow.Author.Tests.{ne_eqb, lt-ltb, le-ltb, eqb-true, eqb-false, ltb-true, ltb-false}
use Rattle.base.proofs.Tests.{by-test}
use Rattle.base.proofs.Some.{some_in, all_apart}
use Rattle.base.specs.Choice.{indicator}
use Rattle.base.specs.Counts.{cnt}
use Rattle.base.proofs.Counts.{cnt-none, cnt-more, cnt-all, cnt-lt, cnt-most}
use Rattle.base.proofs.Ring as ring
use Rattle.plan.specs.declared.Cell.{Cell}
use Rattle.plan.specs.Fields.{symbol_groups}
use Rattle.layout.specs.Rules.{format_group, is_format, format_has, is_left, groups_left}
use Rattle.layout.specs.Chain.{below_of, number}
use Rattle.layout.proofs.GroupShape.{first-groups, groups-least, groups-most}

pub is-format : (c : Cell) (t i : ℕ) → i < 4 → t ≡ format_group c i → is_format c t ≡ true
unfolding is_format
is-format c t i l e = some_in (format_group c) 4 t i l e

-- how many of PCFICH's groups stand below t
unfoldable pub below : Cell → ℕ → ℕ
below c t = below_of (format_group c 0) (format_group c 1) (format_group c 2) (format_group c 3) t

-- below t + 1: below t, or t itself
pub up : (q t : ℕ) → indicator (ltb q (suc t)) ≡ indicator (ltb q t) + indicator (eqb t q)
up q t =
    by-test (ltb q t)
    (λ e. let z : q < t = ltb-true q t e in rw (e, lt-ltb q (suc t) (omega arith), ne_eqb t q (λ w. omega arith)) refl)
    (λ e. let z : t ≤ q = ltb-false q t e in by-test (eqb t q)
    (λ d. let y : t ≡ q = eqb-true t q d in rw (e, d, lt-ltb q (suc t) (omega arith)) refl)
    (λ d. let y : (t ≡ q) → ⊥ = eqb-false t q d in rw (e, d, le-ltb q (suc t) (omega arith)) refl))

-- at most one of four tests holds
abbrev Sum : Bool → Bool → Bool → Bool → Type 0
Sum a b c d = indicator a + indicator b + indicator c + indicator d ≡ indicator (a || b || c || d)

module _ (t x y z w : ℕ) (xy : (x ≡ y) → ⊥) (xz : (x ≡ z) → ⊥) (xw : (x ≡ w) → ⊥) (yz : (y ≡ z) → ⊥) (yw : (y ≡ w) → ⊥) (zw : (z ≡ w) → ⊥) where
  sums : Sum (eqb t x) (eqb t y) (eqb t z) (eqb t w)
  sums =
      by-test (eqb t x)
      (λ e. let i : t ≡ x = eqb-true t x e in rw (e, ne_eqb t y (λ q. xy (sym i ∙ q)), ne_eqb t z (λ q. xz (sym i ∙ q)), ne_eqb t w (λ q. xw (sym i ∙ q))) refl)
      (λ e. by-test (eqb t y)
      (λ d. let i : t ≡ y = eqb-true t y d in rw (e, d, ne_eqb t z (λ q. yz (sym i ∙ q)), ne_eqb t w (λ q. yw (sym i ∙ q))) refl)
      (λ d. by-test (eqb t z)
      (λ u. let i : t ≡ z = eqb-true t z u in rw (e, d, u, ne_eqb t w (λ q. zw (sym i ∙ q))) refl)
      (λ u. by-test (eqb t w) (λ v. rw (e, d, u, v) refl) (λ v. rw (e, d, u, v) refl))))

one-other : (b : Bool) → cond (not b) 1 0 + indicator b ≡ 1
one-other true = refl
one-other false = refl

module _ (c : Cell) (big : 6 ≤ c.blocks) where
  abbrev N : ℕ
  N = c.blocks

  pub format_small : (i : ℕ) → format_group c i < 2 * N
  unfolding format_group
  format_small i = mod-lt (c.identity + i * N / 2) (omega arith)

  differ : (a b : ℕ) → a < 2 * N → b < 2 * N → ((a ≡ b) → ⊥) → (c.identity + a) % (2 * N) ≡ (c.identity + b) % (2 * N) → ⊥
  differ a b l m n e = n (ring.apart c.identity (2 * N) (omega arith) a b l m e)

  -- PCFICH's quads are in four groups
  pub format-apart : (i j : ℕ) → i < j → j < 4 → format_group c i ≡ format_group c j → ⊥
  unfolding format_group
  format-apart i j l m e =
      let z : i * N + N ≤ j * N = rw (← suc-mul i N) (mul-le-mul_right N l) in
      let w : j * N ≤ 3 * N = mul-le-mul_right N (omega arith) in
      differ (i * N / 2) (j * N / 2) (omega arith) (omega arith) (λ q. omega arith) e

  pub format-once : (i j : ℕ) → i < 4 → j < 4 → format_group c i ≡ format_group c j → i ≡ j
  format-once = all_apart (format_group c) 4 format-apart

  below_all : below c (2 * N) ≡ 4
  unfolding below
  below_all = rw (lt-ltb _ _ (format_small 0), lt-ltb _ _ (format_small 1), lt-ltb _ _ (format_small 2), lt-ltb _ _ (format_small 3)) refl

  below_step : (t : ℕ) → below c (suc t) ≡ below c t + indicator (is_format c t)
  unfolding below is_format
  below_step t =
      let q = format_group c in
      let d = format-apart in
      let s =
      sums t (q 0) (q 1) (q 2) (q 3)
      (d 0 1 (omega arith) (omega arith)) (d 0 2 (omega arith) (omega arith)) (d 0 3 (omega arith) (omega arith))
      (d 1 2 (omega arith) (omega arith)) (d 1 3 (omega arith) (omega arith)) (d 2 3 (omega arith) (omega arith)) in
      omega (arith, s, up (q 0) t, up (q 1) t, up (q 2) t, up (q 3) t)

  number-base : number c 0 0 + below c 0 ≡ 0
  unfolding below
  number-base =
      let q = format_group c in
      rw (cnt-none (is_left c 0), le-ltb (q 0) 0 (omega arith), le-ltb (q 1) 0 (omega arith), le-ltb (q 2) 0 (omega arith), le-ltb (q 3) 0 (omega arith)) refl

  number_step : (t : ℕ) → number c 0 (suc t) + indicator (is_format c t) ≡ number c 0 t + 1
  unfolding is_left format_has
  number_step t = omega (arith, cnt-more (is_left c 0) t, one-other (is_format c t))

  -- the number of t in symbol 0 is t less PCFICH's groups below it
  pub number_is : (t : ℕ) → number c 0 t + below c t ≡ t
  number_is zero = number-base
  number_is (suc t) = omega (arith, number_is t, number_step t, below_step t)

  -- document 01's h: "h = 2N−4 groups left"
  pub left-first : groups_left c 0 ≡ 2 * N - 4
  unfolding groups_left
  left-first = ap (cnt (is_left c 0)) (first-groups c) ∙ (let z : number c 0 (2 * N) ≡ 2 * N - 4 = omega (arith, number_is (2 * N), below_all) in z)

-- ---- a later symbol: PCFICH has no group there, and each group is its own number
module _ (c : Cell) (s : ℕ) (later : 0 < s) where
  pub all_left : (t : ℕ) → is_left c s t ≡ true
  unfolding is_left format_has
  all_left t = rw (ne_eqb s 0 (λ e. omega arith)) refl

  pub number-later : (t : ℕ) → number c s t ≡ t
  number-later t =
      let z : 0 + t ≡ t = omega arith in
      omega (arith, ap (cnt (is_left c s)) (sym z) ∙ cnt-all (is_left c s) 0 t (λ k l u. all_left k), cnt-none (is_left c s))

  pub left-later : groups_left c s ≡ symbol_groups c s
  unfolding groups_left
  left-later = number-later (symbol_groups c s)

-- ---- any symbol
module _ (c : Cell) (big : 6 ≤ c.blocks) (s : ℕ) where
  pub left-least : 2 * c.blocks ≤ groups_left c s + 4
  left-least =
      by-test (eqb s 0)
      (λ e. let z = eqb-true s 0 e in omega (arith, ap (groups_left c) z ∙ left-first c big))
      (λ e. let z = eqb-false s 0 e in omega (arith, left-later c s (omega arith), groups-least c s))

  pub left-most : groups_left c s ≤ 3 * c.blocks
  unfolding groups_left
  left-most = omega (arith, cnt-most (is_left c s) (symbol_groups c s), groups-most c s)

  pub left-some : 0 < groups_left c s
  left-some = omega (arith, left-least)

  -- a group left has a number below h
  pub number_small : (t : ℕ) → t < symbol_groups c s → is_left c s t ≡ true → number c s t < groups_left c s
  unfolding groups_left
  number_small t l e = cnt-lt (is_left c s) t (symbol_groups c s) e l
