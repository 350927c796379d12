-- Laws of numbers by their binary digits, and that the sequences' values are digits. Assumes nothing.
use mathlib.Core.Path.{◌≡◌, refl, sym, ap, ◌∙◌}
use mathlib.Core.Bool.{Bool, true, false, cond}
use Prim.Native.Nat.{ℕ, zero, suc, ◌+◌, ◌*◌, ◌/◌, ◌%◌, ◌^◌, ◌<◌}
use native.Mathlib.Nat.{pow-suc, add-zero, add-suc, mul_assoc}
use native.Mathlib.Numerals.{add-one}
use native.Mathlib.Omega.{arith}
use lib.Dec.{eqb}
use lib.Pow.{high, low}
use Rattle.base.specs.Digits.{dig, dig-shr}
use Rattle.gold.specs.Sequence.{up_to, start1, rule1, x1, start2, rule2, x2, binary}

pub binary-none : (x : ℕ → ℕ) (k : ℕ) → binary x k 0 ≡ 0
unfolding binary
binary-none x k = refl

pub binary-more : (x : ℕ → ℕ) (k n : ℕ) → binary x k (n + 1) ≡ binary x k n * 2 + x (k + n)
unfolding binary
binary-more x k n = ap (binary x k) (add-one n)

-- two digits
pub binary-two : (x : ℕ → ℕ) (k : ℕ) → binary x k 2 ≡ x k * 2 + x (k + 1)
unfolding binary
binary-two x k = let e : x (k + 0) ≡ x k = ap x (add-zero k) in omega arith

-- the same digits, the same number
pub binary-same : (x y : ℕ → ℕ) (k l n : ℕ) → ((i : ℕ) → i < n → x (k + i) ≡ y (l + i)) → binary x k n ≡ binary y l n
unfolding binary
binary-same x y k l zero same = refl
binary-same x y k l (suc n) same =
    λ i. binary-same x y k l n (λ j less. same j (omega arith)) i * 2 + same n (omega arith) i

-- in two parts
pub binary-split : (x : ℕ → ℕ) (k m n : ℕ) → binary x k (m + n) ≡ binary x k m * 2 ^ n + binary x (k + m) n
unfolding binary
binary-split x k m zero = ap (binary x k) {x = m + 0} {y = m} (omega arith) ∙ one (binary x k m)
  where
    one : (a : ℕ) → a ≡ a * 1 + 0
    one a = omega arith
binary-split x k m (suc n) =
    ap (binary x k) (add-suc m n)
    ∙ (λ i. binary-split x k m n i * 2 + ap x {x = k + (m + n)} {y = k + m + n} (omega arith) i)
    ∙ grow (binary x k m * 2 ^ n) (binary x (k + m) n) (x (k + m + n))
    ∙ ap (λ (p : ℕ). p + (binary x (k + m) n * 2 + x (k + m + n)))
    (mul_assoc (binary x k m) (2 ^ n) 2 ∙ ap (λ (p : ℕ). binary x k m * p) (sym (pow-suc 2 n)))
  where
    grow : (a b o : ℕ) → (a + b) * 2 + o ≡ a * 2 + (b * 2 + o)
    grow a b o = omega arith

module _ (x : ℕ → ℕ) (two : (i : ℕ) → x i < 2) where
  pub binary-lt : (k n : ℕ) → binary x k n < 2 ^ n
  unfolding binary
  binary-lt k zero = omega arith
  binary-lt k (suc n) =
      let h : binary x k n < 2 ^ n = binary-lt k n in
      let b : x (k + n) < 2 = two (k + n) in
      let e : 2 ^ suc n ≡ 2 ^ n * 2 = pow-suc 2 n in
      omega arith

  -- digit j from the right is digit i from the left
  pub binary-digit : (k n i j : ℕ) → j + suc i ≡ n → dig (binary x k n) j ≡ x (k + i)
  unfolding binary dig
  binary-digit k zero i j e = absurd (omega arith)
  binary-digit k (suc n) i zero e =
      last (binary x k n) (x (k + n)) (two (k + n)) ∙ ap (λ (m : ℕ). x (k + m)) {x = n} {y = i} (omega arith)
    where
      last : (a b : ℕ) → b < 2 → (a * 2 + b) / 1 % 2 ≡ b
      last a b less = omega arith
  binary-digit k (suc n) i (suc j) e =
      ap (dig (binary x k n * 2 + x (k + n))) {x = suc j} {y = 1 + j} (omega arith)
      ∙ sym (dig-shr (binary x k n * 2 + x (k + n)) 1 j)
      ∙ ap (λ (z : ℕ). dig z j) (half (binary x k n) (x (k + n)) (two (k + n)))
      ∙ binary-digit k n i j (omega arith)
    where
      half : (a b : ℕ) → b < 2 → (a * 2 + b) / 2 ≡ a
      half a b less = omega arith

  -- the first part of two, and the second
  pub binary-high : (k m n : ℕ) → binary x k (m + n) / 2 ^ n ≡ binary x k m
  binary-high k m n = ap (λ (z : ℕ). z / 2 ^ n) (binary-split x k m n) ∙ high (binary x k m) n (binary-lt (k + m) n)

  pub binary-low : (k m n : ℕ) → binary x k (m + n) % 2 ^ n ≡ binary x (k + m) n
  binary-low k m n = ap (λ (z : ℕ). z % 2 ^ n) (binary-split x k m n) ∙ low (binary x k m) n (binary-lt (k + m) n)

-- ---- the values of the sequences are 0 and 1
module _ (start : ℕ → ℕ) (rule : (ℕ → ℕ) → ℕ → ℕ)
    (s : (i : ℕ) → start i < 2) (r : (y : ℕ → ℕ) (n : ℕ) → rule y n < 2) where
  up-to-two : (n i : ℕ) → up_to start rule n i < 2
  unfolding up_to
  up-to-two zero i = s i
  up-to-two (suc n) i = pick (eqb i (n + 31)) (r (up_to start rule n) n) (up-to-two n i)
    where
      pick : (t : Bool) {a b : ℕ} → a < 2 → b < 2 → cond t a b < 2
      pick true a b = a
      pick false a b = b

start1-two : (i : ℕ) → start1 i < 2
unfolding start1
start1-two zero = omega arith
start1-two (suc i) = omega arith

rule1-two : (y : ℕ → ℕ) (n : ℕ) → rule1 y n < 2
unfolding rule1
rule1-two y n = omega arith

pub start2-two : (ci i : ℕ) → start2 ci i < 2
unfolding start2
start2-two ci i = omega arith

rule2-two : (y : ℕ → ℕ) (n : ℕ) → rule2 y n < 2
unfolding rule2
rule2-two y n = omega arith

pub x1-two : (n : ℕ) → x1 n < 2
unfolding x1
x1-two n = up-to-two start1 rule1 start1-two rule1-two n n

pub x2-two : (ci n : ℕ) → x2 ci n < 2
unfolding x2
x2-two ci n = up-to-two (start2 ci) rule2 (start2-two ci) rule2-two n n
