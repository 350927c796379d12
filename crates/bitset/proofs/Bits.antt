-- Some number below n passes a test. The bits of or, and, exclusive or, 2^k and 2^k - 1; a number that is not 0 has a bit that is 1. Assumes nothing.
use Prim.Native.Nat.{ℕ, zero, suc, ◌+◌, ◌-◌, ◌*◌, ◌/◌, ◌%◌, ◌^◌, ◌≤◌, ◌<◌, min, max}
use mathlib.Core.Path.{◌≡◌, refl, sym, ap, ap₂, ◌∙◌}
use mathlib.Core.Bool.{Bool, true, false, not, cond, ◌&&◌, ◌||◌, or_assoc}
use native.Mathlib.Nat.{zero-div, div_self, div-eq_of_lt, pow-suc, max-le, min-le_left, not-suc-le-zero, le_of_suc-le-suc, zero-add, suc-add}
use native.Mathlib.Numerals.{add-one}
use native.Mathlib.Omega.{arith}
use lib.Pow.{pow_pos, pow_mono, pow-lt, pow-add, shl-shr, high, ones_lt, ones_split}
use lib.Bits.{bit_and, bit_or, bit_xor, or_step, and_step, or_shr, and_shr}
use lib.Dec.{eqb, ltb}
use borrow.Author.Tests.{eq-eqb, ne_eqb, eqb-true, eqb-false, ltb-true, ltb-false}
use Rattle.base.specs.Digits.{dig, dig-xor, dig-shr}
use Rattle.base.proofs.Tests.{by-test, clash, or_right}
use Rattle.bitset.specs.Sets.{bit, some_below}

-- ---- some number below n passes: one that does, equal tests, either of two tests, two stretches
pub or-four : (a b d e : Bool) → a || b || (d || e) ≡ a || d || (b || e)
or-four true b d e = refl
or-four false true true e = refl
or-four false true false e = refl
or-four false false d e = refl

-- the next number's test
abbrev next : (ℕ → Bool) → ℕ → Bool
next f i = f (suc i)

pub some_at : (n : ℕ) (f : ℕ → Bool) (i : ℕ) → i < n → f i ≡ true → some_below n f ≡ true
unfolding some_below
some_at zero f i l e = absurd (not-suc-le-zero l)
some_at (suc n) f zero l e = rw e refl
some_at (suc n) f (suc i) l e = or_right (f 0) _ (some_at n (next f) i (le_of_suc-le-suc l) e)

pub some_is : (n : ℕ) (f : ℕ → Bool) → some_below n f ≡ true → (i : ℕ) × (i < n) × (f i ≡ true)
unfolding some_below
some_is zero f e = clash e refl
some_is (suc n) f e =
    by-test (f 0) (λ t. (0, omega arith, t))
    (λ t. let r = some_is n (next f) (rw t at e) in (suc r.0, omega (arith, r.1), r.2))

pub some_same : (n : ℕ) (f g : ℕ → Bool) → ((i : ℕ) → i < n → f i ≡ g i) → some_below n f ≡ some_below n g
unfolding some_below
some_same zero f g h = refl
some_same (suc n) f g h = ap₂ (λ (a b : Bool). a || b) (h 0 (omega arith)) (some_same n (next f) (next g) (λ i l. h (suc i) (omega arith)))

pub some_or : (n : ℕ) (f g : ℕ → Bool) → some_below n (λ (i : ℕ). f i || g i) ≡ some_below n f || some_below n g
unfolding some_below
some_or zero f g = refl
some_or (suc n) f g = rw (some_or n (next f) (next g)) (or-four (f 0) (g 0) (some_below n (next f)) (some_below n (next g)))

pub some-add : (n d : ℕ) (f : ℕ → Bool) → some_below (n + d) f ≡ some_below n f || some_below d (λ (i : ℕ). f (n + i))
unfolding some_below
some-add zero d f = rw zero-add (some_same d f (λ (i : ℕ). f (0 + i)) (λ i l. ap f (sym (zero-add i))))
some-add (suc n) d f =
    rw (suc-add n d, some-add n d (next f))
    (sym (or_assoc (f 0) _ _) ∙ ap (λ (t : Bool). f 0 || some_below n (next f) || t) (some_same d _ _ (λ i l. ap f (sym (suc-add n i)))))

-- ---- a function of two bits, by its four values
table : (op : ℕ → ℕ → ℕ) (f : Bool → Bool → Bool) → (eqb (op 0 0) 1 ≡ f false false) → (eqb (op 0 1) 1 ≡ f false true) →
    (eqb (op 1 0) 1 ≡ f true false) → (eqb (op 1 1) 1 ≡ f true true) → (x y : ℕ) → x < 2 → y < 2 → eqb (op x y) 1 ≡ f (eqb x 1) (eqb y 1)
table op f p q r s zero zero a b = p
table op f p q r s zero (suc zero) a b = q
table op f p q r s (suc zero) zero a b = r
table op f p q r s (suc zero) (suc zero) a b = s
table op f p q r s zero (suc (suc y)) a b = absurd (omega arith)
table op f p q r s (suc zero) (suc (suc y)) a b = absurd (omega arith)
table op f p q r s (suc (suc x)) y a b = absurd (omega arith)

abbrev is_one : ℕ → Bool
is_one z = eqb z 1

abbrev pub unlike : Bool → Bool → Bool
unlike a b = cond a (not b) b

or-odd : (a b : ℕ) → bit_or a b % 2 ≡ max (a % 2) (b % 2)
or-odd a b = let small : max (a % 2) (b % 2) ≤ 1 = max-le (omega arith) (omega arith) in omega (arith, or_step a b)

and-odd : (a b : ℕ) → bit_and a b % 2 ≡ min (a % 2) (b % 2)
and-odd a b = let small : min (a % 2) (b % 2) ≤ a % 2 = min-le_left (a % 2) (b % 2) in omega (arith, and_step a b)

module _ (a b i : ℕ) where
  pub bit-or : bit (bit_or a b) i ≡ bit a i || bit b i
  bit-or =
      ap is_one (ap (λ (z : ℕ). z % 2) (or_shr a b i) ∙ or-odd (a / 2 ^ i) (b / 2 ^ i))
      ∙ table max (λ (x y : Bool). x || y) refl refl refl refl (a / 2 ^ i % 2) (b / 2 ^ i % 2) (omega arith) (omega arith)

  pub bit-and : bit (bit_and a b) i ≡ bit a i && bit b i
  bit-and =
      ap is_one (ap (λ (z : ℕ). z % 2) (and_shr a b i) ∙ and-odd (a / 2 ^ i) (b / 2 ^ i))
      ∙ table min (λ (x y : Bool). x && y) refl refl refl refl (a / 2 ^ i % 2) (b / 2 ^ i % 2) (omega arith) (omega arith)

  pub bit-xor : bit (bit_xor a b) i ≡ unlike (bit a i) (bit b i)
  unfolding dig
  bit-xor =
      ap is_one (dig-xor a b i)
      ∙ table (λ (x y : ℕ). (x + y) % 2) unlike refl refl refl refl (a / 2 ^ i % 2) (b / 2 ^ i % 2) (omega arith) (omega arith)

pub bit-zero : (i : ℕ) → bit 0 i ≡ false
bit-zero i = rw (zero-div (2 ^ i)) refl

-- ---- 2^k and 2^k - 1, where i is below k and where it is not
pow_below : (k i : ℕ) → 2 ^ (k + 1 + i) / 2 ^ i % 2 ≡ 0
pow_below k i = rw (pow-add 2 (k + 1) i, shl-shr (2 ^ (k + 1)) i, add-one k, pow-suc 2 k) (omega arith)

ones_below : (k i : ℕ) → (2 ^ (k + 1 + i) - 1) / 2 ^ i % 2 ≡ 1
ones_below k i =
    let some : 0 < 2 ^ k = pow_pos k in
    rw (ones_split (k + 1) i, high (2 ^ (k + 1) - 1) i (ones_lt i), add-one k, pow-suc 2 k) (omega arith)

module _ (k i : ℕ) where
  less : (f : ℕ → ℕ) (x : ℕ) → f (k - suc i + 1 + i) ≡ x → i < k → is_one (f k) ≡ is_one x
  less f x e h = let s : k ≡ k - suc i + 1 + i = omega arith in ap is_one (ap f s ∙ e)

  pub bit-pow : bit (2 ^ k) i ≡ eqb i k
  bit-pow =
      by-test (eqb i k)
      (λ t. rw (eqb-true i k t, div_self (pow_pos k), eq-eqb k k refl) refl)
      (λ t.
      rw t
      (by-test (ltb i k)
      (λ l. less (λ (m : ℕ). 2 ^ m / 2 ^ i % 2) 0 (pow_below (k - suc i) i) (ltb-true i k l))
      (λ l. let h : k < i = omega (arith, ltb-false i k l, eqb-false i k t) in rw (div-eq_of_lt (pow-lt h)) refl)))

  pub bit-ones : bit (2 ^ k - 1) i ≡ ltb i k
  bit-ones =
      by-test (ltb i k)
      (λ t. rw t (less (λ (m : ℕ). (2 ^ m - 1) / 2 ^ i % 2) 1 (ones_below (k - suc i) i) (ltb-true i k t)))
      (λ t.
      let h : 2 ^ k ≤ 2 ^ i = pow_mono (ltb-false i k t) in
      let small : 2 ^ k - 1 < 2 ^ i = omega (arith, pow_pos k) in
      rw (t, div-eq_of_lt small) refl)

-- ---- a number below 2^k is not 0 where one of its k bits is 1
half : (x : ℕ) → not (eqb x 0) ≡ bit x 0 || not (eqb (x / 2) 0)
half x =
    by-test (eqb x 0)
    (λ t. rw (eqb-true x 0 t) refl)
    (λ t.
    rw t
    (by-test (bit x 0) (λ b. rw b refl)
    (λ b.
    let even : x / 1 % 2 ≡ 1 → ⊥ = eqb-false (x / 2 ^ 0 % 2) 1 b in
    let some : x ≡ 0 → ⊥ = eqb-false x 0 t in
    rw (b, ne_eqb (x / 2) 0 (λ z. some (omega (arith, even)))) refl)))

pub not-zero : (k x : ℕ) → x < 2 ^ k → not (eqb x 0) ≡ some_below k (bit x)
unfolding some_below dig
not-zero zero x l = let e : x ≡ 0 = omega arith in rw e refl
not-zero (suc k) x l =
    let e : x < 2 ^ k * 2 = rw (pow-suc 2 k) at l in
    half x
    ∙ ap (λ (t : Bool). bit x 0 || t) (not-zero k (x / 2) (omega arith) ∙ some_same k _ _ (λ i h. ap is_one (dig-shr x 1 i ∙ ap (dig x) (sym (add-one' i)))))
  where
    add-one' : (i : ℕ) → suc i ≡ 1 + i
    add-one' i = omega arith
