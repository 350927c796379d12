-- Elements with different keys below n are at most n. Assumes nothing.
use Prim.Native.Nat.{ℕ, zero, suc, ◌≤◌, ◌<◌}
use mathlib.Core.Path.{◌≡◌, refl, sym, ap, ◌∙◌}
use mathlib.Core.Bool.{cond}
use mathlib.Core.List.{List, [], ◌∷◌}
use native.Mathlib.Nat.{not-suc-le-zero}
use native.Mathlib.Omega.{arith}
use lib.Dec.{eqb}
use lib.ListN.{length}
use borrow.Author.Tests.{eqb-true, eqb-false, ne_eqb}
use Rattle.plan.specs.Lists.{Every, Apart}
use Rattle.plan.proofs.Listed.{choose}

module _ {A : Type 0} (key : A → ℕ) (k : ℕ) where
  -- the elements whose key is not k
  others : List A → List A
  others [] = []
  others (a ∷ xs) = cond (eqb (key a) k) (others xs) (a ∷ others xs)

  others-every : (P : A → Type 0) (xs : List A) → Every P xs → Every P (others xs)
  unfolding others
  others-every P [] h = tt
  others-every P (a ∷ xs) h =
      choose (Every P) (eqb (key a) k) (others xs) (a ∷ others xs) (λ t. others-every P xs h.1) (λ t. (h.0, others-every P xs h.1))

  others_apart : (R : A → A → Type 0) (xs : List A) → Apart R xs → Apart R (others xs)
  unfolding others
  others_apart R [] h = tt
  others_apart R (a ∷ xs) h =
      choose (Apart R) (eqb (key a) k) (others xs) (a ∷ others xs)
      (λ t. others_apart R xs h.1) (λ t. (others-every (R a) xs h.0, others_apart R xs h.1))

  others_below : (xs : List A) → Every (λ (a : A). key a < suc k) xs → Every (λ (a : A). key a < k) (others xs)
  unfolding others
  others_below [] h = tt
  others_below (a ∷ xs) h =
      choose (Every (λ (x : A). key x < k)) (eqb (key a) k) (others xs) (a ∷ others xs)
      (λ t. others_below xs h.1) (λ t. (below (key a) h.0 (eqb-false (key a) k t), others_below xs h.1))
    where
      below : (x : ℕ) → x < suc k → (x ≡ k → ⊥) → x < k
      below x l n = omega (arith, n)

  -- none has the key k
  others-all : (xs : List A) → Every (λ (a : A). key a ≡ k → ⊥) xs → length (others xs) ≡ length xs
  unfolding others
  others-all [] h = refl
  others-all (a ∷ xs) h = rw (ne_eqb (key a) k h.0) (ap suc (others-all xs h.1))

abbrev pub Keys : {A : Type 0} → (A → ℕ) → A → A → Type 0
Keys key a b = key a ≡ key b → ⊥

module _ {A : Type 0} (key : A → ℕ) where
  apart_from : (k : ℕ) (a : A) → key a ≡ k → (xs : List A) → Every (Keys key a) xs → Every (λ (b : A). key b ≡ k → ⊥) xs
  apart_from k a e [] h = tt
  apart_from k a e (b ∷ xs) h = ((λ q. h.0 (e ∙ sym q)), apart_from k a e xs h.1)

  one_less : (k : ℕ) (xs : List A) → Apart (Keys key) xs → length xs ≤ suc (length (others key k xs))
  unfolding others
  one_less k [] h = omega arith
  one_less k (a ∷ xs) h =
      choose (λ (ys : List A). suc (length xs) ≤ suc (length ys)) (eqb (key a) k) (others key k xs) (a ∷ others key k xs)
      (λ t. omega (arith, others-all key k xs (apart_from k a (eqb-true (key a) k t) xs h.0)))
      (λ t. omega (arith, one_less k xs h.1))

  pub few : (n : ℕ) (xs : List A) → Every (λ (a : A). key a < n) xs → Apart (Keys key) xs → length xs ≤ n
  few zero [] h d = omega arith
  few zero (a ∷ xs) h d = absurd (not-suc-le-zero h.0)
  few (suc n) xs h d =
      let l : length (others key n xs) ≤ n = few n (others key n xs) (others_below key n xs h) (others_apart key n (Keys key) xs d) in
      omega (arith, one_less n xs d)
