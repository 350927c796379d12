-- A value k steps on in a sequence that has a rule for x(n + 31): the sum, mod 2, of some of the values x(n), .., x(n + 30). Their offsets from n
-- are a list that the checker computes, one step after the other. Assumes nothing.
use mathlib.Core.Path.{◌≡◌, refl, sym, ap, ◌∙◌}
use mathlib.Core.Bool.{Bool, true, false, cond, ◌&&◌}
use mathlib.Core.List.{List, [], ◌∷◌}
use Prim.Native.Nat.{ℕ, zero, suc, ◌+◌, ◌%◌, ◌<◌, ◌≤◌}
use native.Mathlib.Omega.{arith}
use native.Mathlib.Nat.{mod-eq_of_lt}
use lib.Dec.{T, eqb, ltb, leb, leb→le}
use lib.Ieee.Fits.{and_l, and_r}
use borrow.Author.Tests.{eqb-true}

-- ---- the offsets, largest first
-- one more, or one less where it is there already: twice the same value is 0
abbrev flip : ℕ → List ℕ → List ℕ
flip j [] = j ∷ []
flip j (i ∷ A) = cond (eqb i j) A (cond (ltb i j) (j ∷ i ∷ A) (i ∷ flip j A))

abbrev flips : List ℕ → List ℕ → List ℕ
flips [] A = A
flips (j ∷ R) A = flip j (flips R A)

abbrev up : List ℕ → List ℕ
up [] = []
up (j ∷ A) = suc j ∷ up A

-- one step on, by the rule's offsets R where x(n + 31) would stand
abbrev on : List ℕ → List ℕ → List ℕ
on R [] = []
on R (j ∷ A) = cond (eqb j 30) (flips R (up A)) (suc j ∷ up A)

-- k steps on
unfoldable pub far : List ℕ → ℕ → List ℕ
far R zero = 0 ∷ []
far R (suc k) = on R (far R k)

-- ---- the sum of the values at these offsets from n
abbrev pub sum_at : (ℕ → ℕ) → List ℕ → ℕ → ℕ
sum_at x [] n = 0
sum_at x (j ∷ A) n = x (n + j) + sum_at x A n

-- every offset is at most c
abbrev pub within : ℕ → List ℕ → Bool
within c [] = true
within c (j ∷ A) = leb j c && within c A

pub sum_same : (x y : ℕ → ℕ) (m n c : ℕ) → ((j : ℕ) → j ≤ c → x (m + j) ≡ y (n + j)) → (A : List ℕ) → T (within c A) → sum_at x A m ≡ sum_at y A n
sum_same x y m n c same [] t = refl
sum_same x y m n c same (j ∷ A) t =
    λ i. same j (leb→le j c (and_l (leb j c) (within c A) t)) i + sum_same x y m n c same A (and_r (leb j c) (within c A) t) i

module _ (x : ℕ → ℕ) where
  flipped : (j : ℕ) (A : List ℕ) (n : ℕ) → sum_at x (flip j A) n % 2 ≡ (x (n + j) + sum_at x A n) % 2
  flipped j [] n = refl
  flipped j (i ∷ A) n = pick (eqb i j) (ltb i j) (eqb-true i j) (flipped j A n)
    where
      pick : (s t : Bool) → (s ≡ true → i ≡ j) → sum_at x (flip j A) n % 2 ≡ (x (n + j) + sum_at x A n) % 2
          → sum_at x (cond s A (cond t (j ∷ i ∷ A) (i ∷ flip j A))) n % 2 ≡ (x (n + j) + (x (n + i) + sum_at x A n)) % 2
      pick true t same h = let e : x (n + i) ≡ x (n + j) = ap (λ (k : ℕ). x (n + k)) (same refl) in omega arith
      pick false true same h = refl
      pick false false same h = omega arith

  flipped-all : (R A : List ℕ) (n : ℕ) → sum_at x (flips R A) n % 2 ≡ (sum_at x R n + sum_at x A n) % 2
  flipped-all [] A n = ap (λ (s : ℕ). s % 2) {x = sum_at x A n} {y = 0 + sum_at x A n} (omega arith)
  flipped-all (j ∷ R) A n = omega (arith, flipped j (flips R A) n, flipped-all R A n)

  upped : (A : List ℕ) (n : ℕ) → sum_at x (up A) n ≡ sum_at x A (suc n)
  upped [] n = refl
  upped (j ∷ A) n = λ t. ap x {x = n + suc j} {y = suc n + j} (omega arith) t + upped A n t

  module _ (two : (n : ℕ) → x n < 2) (R : List ℕ) (rule : (n : ℕ) → x (n + 31) ≡ sum_at x R n % 2) where
    gone : (A : List ℕ) (n : ℕ) → sum_at x (on R A) n % 2 ≡ sum_at x A (suc n) % 2
    gone [] n = refl
    gone (j ∷ A) n = pick (eqb j 30) (eqb-true j 30)
      where
        pick : (s : Bool) → (s ≡ true → j ≡ 30) → sum_at x (cond s (flips R (up A)) (suc j ∷ up A)) n % 2 ≡ sum_at x (j ∷ A) (suc n) % 2
        pick true last =
            let k : n + 31 ≡ suc n + j = omega (arith, last refl) in
            omega (arith, ap x k, rule n, flipped-all R (up A) n, upped A n)
        pick false last = ap (λ (s : ℕ). s % 2) (upped (j ∷ A) n)

    parity : (k n : ℕ) → x (n + k) % 2 ≡ sum_at x (far R k) n % 2
    unfolding far
    parity zero n = ap (λ (s : ℕ). s % 2) {x = x (n + 0)} {y = x (n + 0) + 0} (omega arith)
    parity (suc k) n =
        ap (λ (i : ℕ). x i % 2) {x = n + suc k} {y = suc n + k} (omega arith) ∙ parity k (suc n) ∙ sym (gone (far R k) n)

    -- the law: x(n + k) is the sum at the offsets k steps on
    pub jump : (k n : ℕ) → x (n + k) ≡ sum_at x (far R k) n % 2
    jump k n = sym (mod-eq_of_lt (two (n + k))) ∙ parity k n
