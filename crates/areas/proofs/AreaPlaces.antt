-- The places of an area by rows and half blocks, and where it has none. Assumes only that a row is not empty.
use Prim.Native.Nat.{ℕ, suc, ◌+◌, ◌-◌, ◌*◌, ◌/◌, ◌%◌, ◌≤◌, ◌<◌}
use mathlib.Core.Path.{◌≡◌, refl, sym, ap, ap₂, ◌∙◌}
use mathlib.Core.Bool.{Bool, true, false, not, ◌&&◌, and-false}
use native.Mathlib.Nat.{div-lt_iff_lt-mul, mul-le-mul_right, suc-mul}
use native.Mathlib.Decide.{dec_le}
use native.Mathlib.Omega.{arith}
use lib.Dec.{leb, ltb}
use borrow.Author.Tests.{le-leb, lt-leb, lt-ltb, le-ltb, leb-true}
use Rattle.base.proofs.Tests.{by-test, clash}
use Rattle.layout.specs.Owners.{carriers}
use Rattle.places.specs.Places.{symbol_at, carrier_at}
use Rattle.places.specs.Halves.{without, taken_half}
use Rattle.places.proofs.Numbers.{place-symbol, place-carrier, place-both, carrier-inside}
use Rattle.areas.specs.declared.Area.{Area}
use Rattle.areas.specs.Areas.{area_has, area_at}

-- two tests that say the same
pub leb-same : (a b c d : ℕ) → (a ≤ b → c ≤ d) → (c ≤ d → a ≤ b) → leb a b ≡ leb c d
leb-same a b c d f g =
    by-test (leb a b)
    (λ e. e ∙ sym (le-leb c d (f (leb-true a b e))))
    (λ e. by-test (leb c d) (λ h. clash (le-leb a b (g (leb-true c d h))) e) (λ h. e ∙ sym h))

-- the r-th subcarrier of half block b of symbol s, if the area has any of these
abbrev pub open_in : Area → ℕ → ℕ → Bool
open_in a s r = without a.cell a.signals s r

abbrev pub left_out : Area → ℕ → ℕ → Bool
left_out a s b = a.leaves && taken_half a.cell a.frame s b

fourth-false : (x y z v n m : Bool) → z ≡ false → x && y && z && v && n && m ≡ false
fourth-false x y z v n m e = rw e (rw (and-false (x && y)) refl)

fifth-false : (x y z v n m : Bool) → v ≡ false → x && y && z && v && n && m ≡ false
fifth-false x y z v n m e = rw e (rw (and-false (x && y && z)) refl)

second-false : (x y z v n m : Bool) → y ≡ false → x && y && z && v && n && m ≡ false
second-false x y z v n m e = rw e (rw (and-false x) refl)

module _ (a : Area) where
  abbrev W : ℕ
  W = carriers a.cell

  pub area-at : (s k : ℕ) → k < W → area_at a (s * W + k) ≡ area_has a s k
  unfolding area_at
  area-at s k h = ap₂ (area_has a) (place-symbol a.cell s k h) (place-carrier a.cell s k h)

  -- outside its rows and half blocks
  early-row : (s k : ℕ) → s < a.first → area_has a s k ≡ false
  unfolding area_has
  early-row s k h = rw (lt-leb a.first s h) refl

  late-row : (s k : ℕ) → a.last ≤ s → area_has a s k ≡ false
  unfolding area_has
  late-row s k h = second-false (leb a.first s) (ltb s a.last) _ _ _ _ (le-ltb s a.last h)

  early-half : (s k : ℕ) → k < 6 * a.from → area_has a s k ≡ false
  unfolding area_has
  early-half s k h = fourth-false (leb a.first s) (ltb s a.last) (leb (6 * a.from) k) _ _ _ (lt-leb (6 * a.from) k h)

  late-half : (s k : ℕ) → 6 * a.to ≤ k → area_has a s k ≡ false
  unfolding area_has
  late-half s k h = fifth-false (leb a.first s) (ltb s a.last) (leb (6 * a.from) k) (ltb k (6 * a.to)) _ _ (le-ltb k (6 * a.to) h)

  -- a stretch of a row
  stretch :
      (s x y : ℕ) → y ≤ W → ((k : ℕ) → x ≤ k → k < y → area_has a s k ≡ false) → (t : ℕ) → s * W + x ≤ t → t < s * W + y → area_at a t ≡ false
  stretch s x y wide h t l m =
      let k = t - s * W in
      let e : s * W + k ≡ t = omega arith in
      ap (area_at a) (sym e) ∙ area-at s k (omega arith) ∙ h k (omega arith) (omega arith)

  -- before its first half block, and from its last one on to the row's end
  pub row-early : (s x : ℕ) → 6 * x ≤ W → x ≤ a.from → (t : ℕ) → s * W ≤ t → t < s * W + 6 * x → area_at a t ≡ false
  row-early s x wide h t l m = stretch s 0 (6 * x) wide (λ k u v. early-half s k (omega arith)) t (omega arith) m

  pub row-late : (s : ℕ) → (t : ℕ) → s * W + 6 * a.to ≤ t → t < s * W + W → area_at a t ≡ false
  row-late s t l m = stretch s (6 * a.to) W (omega arith) (λ k u v. late-half s k u) t l m

  -- whole rows
  module _ (some : 0 < W) where
    pub rows-early : (s t : ℕ) → s ≤ a.first → t < s * W → area_at a t ≡ false
    unfolding area_at
    rows-early s t h l =
        let m : symbol_at a.cell t < s = (div-lt_iff_lt-mul some).1 l in
        early-row (symbol_at a.cell t) (carrier_at a.cell t) (omega arith)

    pub rows-late : (s t : ℕ) → a.last ≤ s → s * W ≤ t → area_at a t ≡ false
    unfolding area_at
    rows-late s t h l = late-row (symbol_at a.cell t) (carrier_at a.cell t) (after (symbol_at a.cell t) (place-both a.cell t) (carrier-inside a.cell some t))
      where
        after : (y : ℕ) {k : ℕ} → y * W + k ≡ t → k < W → a.last ≤ y
        after y e m = pick (dec_le s y)
          where
            pick : Dec (s ≤ y) → a.last ≤ y
            pick (yes d) = omega arith
            pick (no d) = let n : suc y ≤ s = omega arith in absurd (omega (arith, mul-le-mul_right W n, suc-mul y W))

  -- inside them
  module _ (s b r : ℕ) (row : a.first ≤ s) (row_last : s < a.last) (half : a.from ≤ b) (half-last : b < a.to) (wide : 6 * a.to ≤ W) (in-r : r < 6) where
    pub area-six : area_at a (s * W + 6 * b + r) ≡ open_in a s r && not (left_out a s b)
    unfolding area_has
    area-six =
        let e : s * W + (6 * b + r) ≡ s * W + 6 * b + r = omega arith in
        ap (area_at a) (sym e)
        ∙ area-at s (6 * b + r) (omega arith)
        ∙ (let k : (6 * b + r) % 6 ≡ r = omega arith in
        let d : (6 * b + r) / 6 ≡ b = omega arith in
        rw (le-leb a.first s row, lt-ltb s a.last row_last, le-leb (6 * a.from) (6 * b + r) (omega arith), lt-ltb (6 * b + r) (6 * a.to) (omega arith), k, d) refl)

    pub area-open : open_in a s r ≡ true → left_out a s b ≡ false → area_at a (s * W + 6 * b + r) ≡ true
    area-open e d = area-six ∙ rw (e, d) refl

    pub area-signal : open_in a s r ≡ false → area_at a (s * W + 6 * b + r) ≡ false
    area-signal e = area-six ∙ rw e refl

    pub area-taken : left_out a s b ≡ true → area_at a (s * W + 6 * b + r) ≡ false
    area-taken d = area-six ∙ rw d (and-false (open_in a s r))
