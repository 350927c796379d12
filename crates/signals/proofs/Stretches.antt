-- Elements by their numbers: every sixth from a first one on, on one port or on two, and all from a first one on. Assumes nothing.
use Prim.Native.Nat.{ℕ, ◌+◌, ◌-◌, ◌*◌, ◌/◌, ◌%◌, ◌≤◌, ◌<◌}
use mathlib.Core.Path.{◌≡◌, refl, ◌∙◌}
use mathlib.Core.Logic.{◌⊎◌, inl, inr}
use mathlib.Core.Bool.{true, false, ◌&&◌, ◌||◌}
use native.Mathlib.Decide.{dec_le}
use native.Mathlib.Omega.{arith}
use lib.Dec.{leb, ltb, eqb}
use borrow.Author.Tests.{leb-true, le-leb, lt-leb, ltb-true, lt-ltb, eqb-true, eq-eqb}
use Rattle.base.proofs.Tests.{both, or_cases, or_left, or_right, is_false, same_test}
use Rattle.plan.proofs.Listed.{and_left, and_right}
use Rattle.signals.specs.Rows.{every_sixth, on_first, in_row}

-- ---- every sixth
pub sixth-is : (first n e : ℕ) → first ≤ e → (e - first) % 6 ≡ 0 → (e - first) / 6 < n → every_sixth first n e ≡ true
unfolding every_sixth
sixth-is first n e a b d = both (both (le-leb _ _ a) (eq-eqb _ _ b)) (lt-ltb _ _ d)

pub sixth-of : (first n e : ℕ) → every_sixth first n e ≡ true → (first ≤ e) × ((e - first) % 6 ≡ 0) × ((e - first) / 6 < n)
unfolding every_sixth
sixth-of first n e h =
    let a = leb first e in
    let b = eqb ((e - first) % 6) 0 in
    let d = ltb ((e - first) / 6) n in
    let ab : a && b ≡ true = and_left (a && b) d h in
    (leb-true _ _ (and_left a b ab), eqb-true _ _ (and_right a b ab), ltb-true _ _ (and_right (a && b) d h))

pub sixth-none : (first e : ℕ) → every_sixth first 0 e ≡ false
sixth-none first e = is_false (every_sixth first 0 e) (λ h. let d = sixth-of first 0 e h in omega arith)

-- n more
pub sixth-more : (first m n e : ℕ) → every_sixth first (m + n) e ≡ every_sixth (first + 6 * m) n e || every_sixth first m e
sixth-more first m n e =
    let later = every_sixth (first + 6 * m) n e in
    let sooner = every_sixth first m e in
    same_test (every_sixth first (m + n) e) (later || sooner)
    (λ h. down (dec_le m ((e - first) / 6)) (sixth-of first (m + n) e h))
    (λ h. up (or_cases later sooner h))
  where
    down : Dec (m ≤ (e - first) / 6) → (first ≤ e) × ((e - first) % 6 ≡ 0) × ((e - first) / 6 < m + n)
        → every_sixth (first + 6 * m) n e || every_sixth first m e ≡ true
    down (yes l) d =
        or_left (every_sixth (first + 6 * m) n e) (every_sixth first m e) (sixth-is (first + 6 * m) n e (omega arith) (omega arith) (omega arith))
    down (no l) d = or_right (every_sixth (first + 6 * m) n e) (every_sixth first m e) (sixth-is first m e d.0 d.1 (omega arith))

    up : (every_sixth (first + 6 * m) n e ≡ true) ⊎ (every_sixth first m e ≡ true) → every_sixth first (m + n) e ≡ true
    up (inl l) = let d = sixth-of (first + 6 * m) n e l in sixth-is first (m + n) e (omega arith) (omega arith) (omega arith)
    up (inr l) = let d = sixth-of first m e l in sixth-is first (m + n) e d.0 d.1 (omega arith)

sixth-only : (first e : ℕ) → every_sixth first 1 e ≡ eqb first e
sixth-only first e =
    same_test (every_sixth first 1 e) (eqb first e)
    (λ h. let d = sixth-of first 1 e h in eq-eqb first e (omega arith))
    (λ h. let d = eqb-true first e h in sixth-is first 1 e (omega arith) (omega arith) (omega arith))

-- one more
pub sixth-one : (first m e : ℕ) → every_sixth first (m + 1) e ≡ eqb (first + 6 * m) e || every_sixth first m e
sixth-one first m e = rw (← sixth-only (first + 6 * m) e) (sixth-more first m 1 e)

-- those before are others
pub sixth-apart : (first m n e : ℕ) → every_sixth first m e ≡ true → every_sixth (first + 6 * m) n e ≡ true → ⊥
sixth-apart first m n e h k = let a = sixth-of first m e h in let b = sixth-of (first + 6 * m) n e k in omega arith

pub sixth-past : (first m e : ℕ) → every_sixth first m e ≡ true → eqb (first + 6 * m) e ≡ true → ⊥
sixth-past first m e h k = let a = sixth-of first m e h in let b = eqb-true (first + 6 * m) e k in omega arith

-- ---- on two ports
pub on-second : (first second e : ℕ) → second ≤ e → on_first first second e ≡ first + (e - second)
unfolding on_first
on-second first second e l = rw (le-leb second e l) refl

pub on-first : (first second e : ℕ) → e < second → on_first first second e ≡ e
unfolding on_first
on-first first second e l = rw (lt-leb second e l) refl

-- on one port
pub on-own : (first e : ℕ) → on_first first first e ≡ e
on-own first e = pick (dec_le first e)
  where
    pick : Dec (first ≤ e) → on_first first first e ≡ e
    pick (yes l) = let j : first + (e - first) ≡ e = omega arith in on-second first first e l ∙ j
    pick (no l) = on-first first first e (omega arith)

-- n elements from f and from s on, which lie as far past `first` and `second`; those from f on end before `second`
module _ (first second f s n e : ℕ) (past : first ≤ f) (alike : f + second ≡ s + first) (before : f + 6 * n ≤ second) where
  pub sixth-both : every_sixth f n (on_first first second e) ≡ every_sixth s n e || every_sixth f n e
  sixth-both =
      same_test (every_sixth f n (on_first first second e)) (every_sixth s n e || every_sixth f n e)
      (down (dec_le second e))
      (λ h. up (or_cases (every_sixth s n e) (every_sixth f n e) h))
    where
      down : Dec (second ≤ e) → every_sixth f n (on_first first second e) ≡ true → every_sixth s n e || every_sixth f n e ≡ true
      down (yes l) h =
          let d = sixth-of f n (first + (e - second)) (rw (on-second first second e l) at h) in
          or_left (every_sixth s n e) (every_sixth f n e) (sixth-is s n e (omega arith) (omega arith) (omega arith))
      down (no l) h = or_right (every_sixth s n e) (every_sixth f n e) (rw (on-first first second e (omega arith)) at h)

      up : (every_sixth s n e ≡ true) ⊎ (every_sixth f n e ≡ true) → every_sixth f n (on_first first second e) ≡ true
      up (inl h) =
          let d = sixth-of s n e h in
          rw (on-second first second e (omega arith)) (sixth-is f n (first + (e - second)) (omega arith) (omega arith) (omega arith))
      up (inr h) = let d = sixth-of f n e h in rw (on-first first second e (omega arith)) h

-- one element on either
pub one-both : (first second f s e : ℕ) → first ≤ f → f + second ≡ s + first → f + 6 ≤ second → eqb f (on_first first second e) ≡ eqb s e || eqb f e
one-both first second f s e a b d =
    rw (← sixth-only f (on_first first second e), ← sixth-only s e, ← sixth-only f e) (sixth-both first second f s 1 e a b (omega arith))

-- ---- all
pub row_is : (first n e : ℕ) → first ≤ e → e < first + n → in_row first n e ≡ true
unfolding in_row
row_is first n e a b = both (le-leb _ _ a) (lt-ltb _ _ b)

pub row_of : (first n e : ℕ) → in_row first n e ≡ true → (first ≤ e) × (e < first + n)
unfolding in_row
row_of first n e h =
    let a = leb first e in
    let b = ltb e (first + n) in
    (leb-true _ _ (and_left a b h), ltb-true _ _ (and_right a b h))

pub row-none : (first e : ℕ) → in_row first 0 e ≡ false
row-none first e = is_false (in_row first 0 e) (λ h. let d = row_of first 0 e h in omega arith)

pub row_one : (first i e : ℕ) → in_row first (i + 1) e ≡ eqb (first + i) e || in_row first i e
row_one first i e =
    same_test (in_row first (i + 1) e) (eqb (first + i) e || in_row first i e)
    (λ h. down (dec_le (first + i) e) (row_of first (i + 1) e h))
    (λ h. up (or_cases (eqb (first + i) e) (in_row first i e) h))
  where
    down : Dec (first + i ≤ e) → (first ≤ e) × (e < first + (i + 1)) → eqb (first + i) e || in_row first i e ≡ true
    down (yes l) d = or_left (eqb (first + i) e) (in_row first i e) (eq-eqb (first + i) e (omega arith))
    down (no l) d = or_right (eqb (first + i) e) (in_row first i e) (row_is first i e d.0 (omega arith))

    up : (eqb (first + i) e ≡ true) ⊎ (in_row first i e ≡ true) → in_row first (i + 1) e ≡ true
    up (inl l) = let d = eqb-true (first + i) e l in row_is first (i + 1) e (omega arith) (omega arith)
    up (inr l) = let d = row_of first i e l in row_is first (i + 1) e d.0 (omega arith)

pub row-past : (first i e : ℕ) → in_row first i e ≡ true → eqb (first + i) e ≡ true → ⊥
row-past first i e h k = let a = row_of first i e h in let b = eqb-true (first + i) e k in omega arith

pub row_in : (first n i e : ℕ) → i < n → eqb (first + i) e ≡ true → in_row first n e ≡ true
row_in first n i e l h = let d = eqb-true (first + i) e h in row_is first n e (omega arith) (omega arith)
