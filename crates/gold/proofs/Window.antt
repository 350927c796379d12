-- Numbers that hold values of a sequence, one in each bit: read off, cut out, added, and made longer by the sequence's rule. Assumes nothing.
use mathlib.Core.Path.{◌≡◌, refl, ap, sym, ◌∙◌}
use mathlib.Core.List.{List, [], ◌∷◌}
use Prim.Native.Nat.{ℕ, zero, suc, ◌+◌, ◌-◌, ◌*◌, ◌/◌, ◌%◌, ◌^◌, ◌<◌, ◌≤◌}
use native.Mathlib.Omega.{arith}
use native.Mathlib.Nat.{pow-suc, div-div-eq-div-mul, zero-div, mod-eq_of_lt}
use lib.Bits.{bit_xor}
use lib.Dec.{T, leb, leb→le}
use lib.Ieee.Fits.{and_l, and_r}
use lib.Pow.{mod-pow-add}
use Rattle.base.specs.Digits.{dig, dig-xor, dig-shr, dig-mod}
use Rattle.gold.specs.Sequence.{binary}
use Rattle.gold.specs.Window.{window, sums}
use Rattle.gold.proofs.Binary.{binary-same, binary-split, binary-lt, binary-digit}
use Rattle.gold.proofs.Jumps.{sum_at, within}

pub halve : (z n : ℕ) → z / 2 ^ suc n ≡ z / 2 ^ n / 2
halve z n = ap (λ (p : ℕ). z / p) (pow-suc 2 n) ∙ sym (div-div-eq-div-mul z (2 ^ n) 2)

-- the w low bits of z are x(k), .., x(k + w - 1)
abbrev pub Holds : (ℕ → ℕ) → ℕ → ℕ → ℕ → Type 0
Holds x k w z = z % 2 ^ w ≡ binary x k w

-- by its bits
pub spelled : (x : ℕ → ℕ) (k w z : ℕ) → ((i j : ℕ) → j + suc i ≡ w → dig z j ≡ x (k + i)) → Holds x k w z
unfolding binary dig
spelled x k zero z all = omega arith
spelled x k (suc w) z all =
    let e : suc w ≡ w + 1 = omega arith in
    let h : z / 2 % 2 ^ w ≡ binary x k w = spelled x k w (z / 2) (λ i j e. dig-shr z 1 j ∙ all i (1 + j) (omega arith)) in
    let l : z / 1 % 2 ≡ x (k + w) = all w 0 (omega arith) in
    let b : z % 2 ≡ x (k + w) = omega arith in
    ap (λ (m : ℕ). z % 2 ^ m) e ∙ mod-pow-add z w 1 ∙ (λ t. h t * 2 + b t)

-- a bit of a number's sums
sums-digit : (z c m : ℕ) (x : ℕ → ℕ) (i : ℕ) → ((j : ℕ) → j ≤ c → dig z (c - j + m) ≡ x (i + j))
    → (A : List ℕ) → T (within c A) → dig (sums z c A) m ≡ sum_at x A i % 2
unfolding dig
sums-digit z c m x i at [] t = ap (λ (v : ℕ). v % 2) (zero-div (2 ^ m))
sums-digit z c m x i at (j ∷ []) t =
    let e : dig z (c - j + m) ≡ x (i + j) = at j (leb→le j c (and_l (leb j c) (within c []) t)) in
    dig-shr z (c - j) m ∙ omega arith
sums-digit z c m x i at (j ∷ h ∷ A) t =
    let e : dig z (c - j + m) ≡ x (i + j) = at j (leb→le j c (and_l (leb j c) (within c (h ∷ A)) t)) in
    dig-xor (sums z c (h ∷ A)) (z / 2 ^ (c - j)) m
    ∙ (λ u. (sums-digit z c m x i at (h ∷ A) (and_r (leb j c) (within c (h ∷ A)) t) u + (dig-shr z (c - j) m ∙ e) u) % 2)
    ∙ swap (sum_at x (h ∷ A) i) (x (i + j))
  where
    swap : (a b : ℕ) → (a % 2 + b) % 2 ≡ (b + a) % 2
    swap a b = omega arith

module _ (x : ℕ → ℕ) (two : (i : ℕ) → x i < 2) where
  digit : (k w z : ℕ) → Holds x k w z → (i j : ℕ) → j + suc i ≡ w → dig z j ≡ x (k + i)
  digit k w z h i j e = sym (dig-mod z w j (omega arith)) ∙ ap (λ (v : ℕ). dig v j) h ∙ binary-digit x two k w i j e

  -- n of the values, after the first a
  pub cut : (k w z : ℕ) → Holds x k w z → (a n b : ℕ) → a + n + b ≡ w → Holds x (k + a) n (z / 2 ^ b)
  cut k w z h a n b e =
      spelled x (k + a) n (z / 2 ^ b)
      (λ i j f. dig-shr z b j ∙ digit k w z h (a + i) (b + j) (omega arith) ∙ ap x {x = k + (a + i)} {y = k + a + i} (omega arith))

  -- w values, and the n that come next
  pub joined : (k w n z f : ℕ) → Holds x k w z → Holds x (k + w) n f → z % 2 ^ w * 2 ^ n + f % 2 ^ n ≡ binary x k (w + n)
  joined k w n z f h g = (λ t. h t * 2 ^ n + g t) ∙ sym (binary-split x k w n)

  pub exact : (k w z : ℕ) → z ≡ binary x k w → Holds x k w z
  exact k w z e = ap (λ (v : ℕ). v % 2 ^ w) e ∙ mod-eq_of_lt (binary-lt x two k w)

  -- the sequence of the sums at some offsets
  pub sums-held : (y : ℕ → ℕ) (A : List ℕ) → ((n : ℕ) → y n ≡ sum_at x A n % 2)
      → (k w z : ℕ) → Holds x k w z → (a n c : ℕ) → a + n + c ≡ w → T (within c A) → Holds y (k + a) n (sums z c A)
  sums-held y A rule k w z h a n c e ok =
      spelled y (k + a) n (sums z c A)
      (λ i j f. sums-digit z c j x (k + a + i) (λ m le. at i j m f le) A ok ∙ sym (rule (k + a + i)))
    where
      at : (i j m : ℕ) → j + suc i ≡ n → m ≤ c → dig z (c - m + j) ≡ x (k + a + i + m)
      at i j m f le = digit k w z h (a + i + m) (c - m + j) (omega arith) ∙ ap x {x = k + (a + i + m)} {y = k + a + i + m} (omega arith)

  -- the values d later, by the offsets of x(n + d)
  pub later : (d k n : ℕ) → binary (λ (i : ℕ). x (i + d)) k n ≡ binary x (k + d) n
  later d k n = binary-same (λ (i : ℕ). x (i + d)) x k (k + d) n (λ i less. ap x {x = k + i + d} {y = k + d + i} (omega arith))

  pub summed : (d : ℕ) (A : List ℕ) → ((n : ℕ) → x (n + d) ≡ sum_at x A n % 2)
      → (k w z : ℕ) → Holds x k w z → (a n c : ℕ) → a + n + c ≡ w → T (within c A) → Holds x (k + a + d) n (sums z c A)
  summed d A rule k w z h a n c e ok = sums-held (λ (i : ℕ). x (i + d)) A rule k w z h a n c e ok ∙ later d (k + a) n

  -- of 31 values 59
  pub windowed : (k : ℕ) (R : List ℕ) → ((n : ℕ) → x (n + 31) ≡ sum_at x R n % 2) → T (within 3 R)
      → (z y : ℕ) → Holds x k 31 z → y ≡ sums z 3 R → Holds x k 59 (window z y)
  windowed k R rule ok z y h e =
      whole z y
      ∙ joined k 31 28 z y h
      (rw e (summed 31 R rule k 31 z h 0 28 3 refl ok ∙ ap (λ (i : ℕ). binary x i 28) {x = k + 0 + 31} {y = k + 31} (omega arith)))
    where
      whole : (z y : ℕ) → window z y % 2 ^ 59 ≡ z % 2 ^ 31 * 2 ^ 28 + y % 2 ^ 28
      whole z y = omega arith

-- the values of two sequences, added
pub added : (x y : ℕ → ℕ) → ((i : ℕ) → x i < 2) → ((i : ℕ) → y i < 2) → (w u v : ℕ) → Holds x 0 w u → Holds y 0 w v
    → Holds (λ (i : ℕ). (x i + y i) % 2) 0 w (bit_xor u v)
added x y s t w u v h g =
    spelled (λ (i : ℕ). (x i + y i) % 2) 0 w (bit_xor u v)
    (λ i j e. dig-xor u v j ∙ (λ a. (digit x s 0 w u h i j e a + digit y t 0 w v g i j e a) % 2))
