-- One law for each way out of the code's functions. Assumes nothing.
use Prim.Native.Nat.{ℕ, ◌+◌, ◌-◌, ◌*◌, ◌≤◌, ◌<◌, min, max}
use mathlib.Core.Path.{◌≡◌, refl, ◌∙◌}
use mathlib.Core.Bool.{Bool, true, false, ◌||◌, and-true, and-false, or-false}
use native.Mathlib.Omega.{arith}
use lib.Dec.{ltb, eqb}
use borrow.Author.Tests.{eq-eqb, ne_eqb, le-leb, lt-leb}
use Rattle.plan.specs.declared.Cell.{Cell}
use Rattle.plan.specs.declared.Frame.{Frame}
use Rattle.layout.specs.Rules.{slot_length, marked}
use Rattle.counts.specs.Users.{taken}

-- ---- taken
module _ (c : Cell) (f : Frame) (s L : ℕ) (eL : L ≡ slot_length c) where
  pub before-marks : s + 2 < L → false ≡ taken c f s
  unfolding taken
  before-marks l = rw (← eL, ne_eqb (s + 1) L (λ e. omega arith), ne_eqb (s + 2) L (λ e. omega arith), lt-leb L s (omega arith)) (simp and-false)

  in-marks : s < L → L ≤ s + 2 → eqb (s + 1) L || eqb (s + 2) L ≡ true
  in-marks l m = pick (eqb (s + 1) L) refl
    where
      pick : (t : Bool) → eqb (s + 1) L ≡ t → t || eqb (s + 2) L ≡ true
      pick true e = refl
      pick false e = eq-eqb (s + 2) L (omega (arith, borrow.Author.Tests.eqb-false (s + 1) L e))

  pub in-centre : s < L → L ≤ s + 2 → marked f ≡ taken c f s
  unfolding taken
  in-centre l m = rw (← eL, in-marks l m, lt-leb L s l) (simp (and-true, and-false, or-false))

  pub after_first : L ≤ s → f.subframe ≡ 0 → ltb s (L + 4) ≡ taken c f s
  unfolding taken marked
  after_first l e = rw (← eL, ne_eqb (s + 1) L (λ q. omega arith), ne_eqb (s + 2) L (λ q. omega arith), eq-eqb f.subframe 0 e, le-leb L s l) refl

  pub after-other : L ≤ s → (f.subframe ≡ 0 → ⊥) → false ≡ taken c f s
  unfolding taken
  after-other l e = rw (← eL, ne_eqb (s + 1) L (λ q. omega arith), ne_eqb (s + 2) L (λ q. omega arith), ne_eqb f.subframe 0 e) (simp and-false)

-- ---- half blocks: low and high are shifted by six
module _ (N first count low high : ℕ) (el : low ≡ max (2 * first + 6) N) (eh : high ≡ min (2 * first + 6 + 2 * count) (N + 12)) where
  low-is : low ≡ max (2 * first) (N - 6) + 6
  low-is = el ∙ (let z : max (2 * first + 6) N ≡ max (2 * first) (N - 6) + 6 = omega arith in z)

  high_is : high ≡ min (2 * (first + count)) (N + 6) + 6
  high_is = eh ∙ (let z : min (2 * first + 6 + 2 * count) (N + 12) ≡ min (2 * (first + count)) (N + 6) + 6 = omega arith in z)

  apart : (x y : ℕ) → low ≡ x + 6 → high ≡ y + 6 → low < high → high - low ≡ y - x
  apart x y e d l = omega arith

  none : (x y : ℕ) → low ≡ x + 6 → high ≡ y + 6 → high ≤ low → 0 ≡ y - x
  none x y e d l = omega arith

  pub shared : low < high → high - low ≡ min (2 * (first + count)) (N + 6) - max (2 * first) (N - 6)
  shared l = apart (max (2 * first) (N - 6)) (min (2 * (first + count)) (N + 6)) low-is high_is l

  pub not-shared : high ≤ low → 0 ≡ min (2 * (first + count)) (N + 6) - max (2 * first) (N - 6)
  not-shared l = none (max (2 * first) (N - 6)) (min (2 * (first + count)) (N + 6)) low-is high_is l
