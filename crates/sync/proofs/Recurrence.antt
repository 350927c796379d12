-- The three words fill up with their sequences as the recurrences say. Assumes nothing.
use Prim.Native.Nat.{ℕ, zero, suc, ◌+◌, ◌/◌, ◌%◌, ◌^◌, ◌≤◌, ◌<◌}
use mathlib.Core.Path.{◌≡◌, refl, sym, ap, ◌∙◌}
use native.Mathlib.Decide.{ℕ_discrete}
use native.Mathlib.Omega.{arith}
use Rattle.base.specs.Digits.{dig, dig-shr, dig-mod}
use Rattle.sync.specs.Sss.{going_on, s_bit, c_bit, z_bit}
use Rattle.sync.specs.Inner.{pushed_of}

-- after i steps bit j is x(i + j - 26), where that is a place of the sequence
pub record Run (x : ℕ → ℕ) (i w : ℕ) : Type 0 where
  pub small : w < 2 ^ 31
  pub bit : (j n : ℕ) → j < 31 → n + 26 ≡ i + j → dig w j ≡ x n

-- ---- the start: x(4) = 1
first : (x : ℕ → ℕ) → x 0 ≡ 0 → x 1 ≡ 0 → x 2 ≡ 0 → x 3 ≡ 0 → x 4 ≡ 1 → (n : ℕ) → n < 5 → dig (2 ^ 30) (26 + n) ≡ x n
unfolding dig
first x a b c d e zero h = sym a
first x a b c d e (suc zero) h = sym b
first x a b c d e (suc (suc zero)) h = sym c
first x a b c d e (suc (suc (suc zero))) h = sym d
first x a b c d e (suc (suc (suc (suc zero)))) h = sym e
first x a b c d e (suc (suc (suc (suc (suc n))))) h = absurd (omega arith)

begun : (x : ℕ → ℕ) → x 0 ≡ 0 → x 1 ≡ 0 → x 2 ≡ 0 → x 3 ≡ 0 → x 4 ≡ 1 → Run x 0 (2 ^ 30)
begun x a b c d e = record { small = omega arith; bit = each }
  where
    each : (j n : ℕ) → j < 31 → n + 26 ≡ 0 + j → dig (2 ^ 30) j ≡ x n
    each j n h k =
        let g : j ≡ 26 + n = omega arith in
        ap (dig (2 ^ 30)) g ∙ first x a b c d e n (omega arith)

-- ---- a step: the bit that comes in is the recurrence's
low-dig : (w sum j : ℕ) → w < 2 ^ 31 → j < 30 → dig (pushed_of w sum) j ≡ dig w (1 + j)
low-dig w sum j h less =
    let e : pushed_of w sum % 2 ^ 30 ≡ w / 2 = omega arith in
    sym (dig-mod (pushed_of w sum) 30 j less) ∙ ap (λ (z : ℕ). dig z j) e ∙ dig-shr w 1 j

high-dig : (w sum : ℕ) → w < 2 ^ 31 → dig (pushed_of w sum) 30 ≡ sum % 2
unfolding dig
high-dig w sum h = omega arith

flipped : (x : ℕ → ℕ) (i w sum : ℕ) → Run x i w → sum % 2 ≡ x (i + 5) → Run x (i + 1) (pushed_of w sum)
flipped x i w sum t e = record { small = omega (arith, t.small); bit = each }
  where
    each : (j n : ℕ) → j < 31 → n + 26 ≡ i + 1 + j → dig (pushed_of w sum) j ≡ x n
    each j n h k = pick (ℕ_discrete j 30)
      where
        pick : Dec (j ≡ 30) → dig (pushed_of w sum) j ≡ x n
        pick (yes top) =
            let g : i + 5 ≡ n = omega arith in
            ap (dig (pushed_of w sum)) top ∙ high-dig w sum t.small ∙ e ∙ ap x g
        pick (no low) = low-dig w sum j t.small (omega arith) ∙ t.bit (1 + j) n (omega arith) (omega arith)

-- bit 26 + k is x(i + k)
tap : (x : ℕ → ℕ) (i w k n : ℕ) → Run x i w → k < 5 → n ≡ i + k → w / 2 ^ (26 + k) % 2 ≡ x n
unfolding dig
tap x i w k n t h e = t.bit (26 + k) n (omega arith) (omega arith)

parity2 : (a b p q : ℕ) → a % 2 ≡ p → b % 2 ≡ q → (a + b) % 2 ≡ (p + q) % 2
parity2 a b p q e f = omega arith

parity4 : (a b c d p q r s : ℕ) → a % 2 ≡ p → b % 2 ≡ q → c % 2 ≡ r → d % 2 ≡ s → (a + b + c + d) % 2 ≡ (p + q + r + s) % 2
parity4 a b c d p q r s e f g h = more (a + b + c) (p + q + r) d s (more (a + b) (p + q) c r (parity2 a b p q e f) g) h
  where
    more : (a p b q : ℕ) → a % 2 ≡ p % 2 → b % 2 ≡ q → (a + b) % 2 ≡ (p + q) % 2
    more a p b q e f = omega arith

-- ---- 36.211's recurrences hold
next : (rule : ℕ → ℕ → ℕ → ℕ → ℕ → ℕ) (a b c d e i : ℕ) → let x = going_on rule a b c d e in
    x (suc (suc (suc (suc (suc i))))) ≡ rule (x i) (x (suc i)) (x (suc (suc i))) (x (suc (suc (suc i)))) (x (suc (suc (suc (suc i)))))
unfolding going_on
next rule a b c d e zero = refl
next rule a b c d e (suc i) = next rule b c d e (rule a b c d e) i

goes_on : (rule : ℕ → ℕ → ℕ → ℕ → ℕ → ℕ) (a b c d e i : ℕ) → let x = going_on rule a b c d e in
    x (i + 5) ≡ rule (x i) (x (i + 1)) (x (i + 2)) (x (i + 3)) (x (i + 4))
goes_on rule a b c d e i =
    let e1 : i + 1 ≡ suc i = omega arith in
    let e2 : i + 2 ≡ suc (suc i) = omega arith in
    let e3 : i + 3 ≡ suc (suc (suc i)) = omega arith in
    let e4 : i + 4 ≡ suc (suc (suc (suc i))) = omega arith in
    let e5 : i + 5 ≡ suc (suc (suc (suc (suc i)))) = omega arith in
    rw (e1, e2, e3, e4, e5) (next rule a b c d e i)

pub s-recurrence : (i : ℕ) → s_bit (i + 5) ≡ (s_bit (i + 2) + s_bit i) % 2
unfolding s_bit
s-recurrence i = goes_on _ 0 0 0 0 1 i

pub c-recurrence : (i : ℕ) → c_bit (i + 5) ≡ (c_bit (i + 3) + c_bit i) % 2
unfolding c_bit
c-recurrence i = goes_on _ 0 0 0 0 1 i

pub z-recurrence : (i : ℕ) → z_bit (i + 5) ≡ (z_bit (i + 4) + z_bit (i + 2) + z_bit (i + 1) + z_bit i) % 2
unfolding z_bit
z-recurrence i = goes_on _ 0 0 0 0 1 i

-- ---- and are what comes in
s-next : (i w : ℕ) → Run s_bit i w → (w / 2 ^ 28 + w / 2 ^ 26) % 2 ≡ s_bit (i + 5)
s-next i w t =
    parity2 (w / 2 ^ 28) (w / 2 ^ 26) (s_bit (i + 2)) (s_bit i)
    (tap s_bit i w 2 (i + 2) t (omega arith) refl)
    (tap s_bit i w 0 i t (omega arith) (omega arith))
    ∙ sym (s-recurrence i)

c-next : (i w : ℕ) → Run c_bit i w → (w / 2 ^ 29 + w / 2 ^ 26) % 2 ≡ c_bit (i + 5)
c-next i w t =
    parity2 (w / 2 ^ 29) (w / 2 ^ 26) (c_bit (i + 3)) (c_bit i)
    (tap c_bit i w 3 (i + 3) t (omega arith) refl)
    (tap c_bit i w 0 i t (omega arith) (omega arith))
    ∙ sym (c-recurrence i)

z-next : (i w : ℕ) → Run z_bit i w → (w / 2 ^ 30 + w / 2 ^ 28 + w / 2 ^ 27 + w / 2 ^ 26) % 2 ≡ z_bit (i + 5)
z-next i w t =
    parity4 (w / 2 ^ 30) (w / 2 ^ 28) (w / 2 ^ 27) (w / 2 ^ 26) (z_bit (i + 4)) (z_bit (i + 2)) (z_bit (i + 1)) (z_bit i)
    (tap z_bit i w 4 (i + 4) t (omega arith) refl)
    (tap z_bit i w 2 (i + 2) t (omega arith) refl)
    (tap z_bit i w 1 (i + 1) t (omega arith) refl)
    (tap z_bit i w 0 i t (omega arith) (omega arith))
    ∙ sym (z-recurrence i)

-- ---- the loop: all three words after i steps
pub record Filled (i s c z : ℕ) : Type 0 where
  pub few : i ≤ 26
  pub s-run : Run s_bit i s
  pub c-run : Run c_bit i c
  pub z-run : Run z_bit i z

pub filled_none : Filled 0 (2 ^ 30) (2 ^ 30) (2 ^ 30)
unfolding going_on s_bit c_bit z_bit
filled_none =
    record {
      few = omega arith;
      s-run = begun s_bit refl refl refl refl refl;
      c-run = begun c_bit refl refl refl refl refl;
      z-run = begun z_bit refl refl refl refl refl;
    }

pub filled_more : (i s c z s' c' z' : ℕ) → i < 26 → Filled i s c z
    → s' ≡ pushed_of s (s / 2 ^ 28 + s / 2 ^ 26)
    → c' ≡ pushed_of c (c / 2 ^ 29 + c / 2 ^ 26)
    → z' ≡ pushed_of z (z / 2 ^ 30 + z / 2 ^ 28 + z / 2 ^ 27 + z / 2 ^ 26)
    → Filled (i + 1) s' c' z'
filled_more i s c z s' c' z' h t e f g =
    record {
      few = omega arith;
      s-run = rw e (flipped s_bit i s (s / 2 ^ 28 + s / 2 ^ 26) t.s-run (s-next i s t.s-run));
      c-run = rw f (flipped c_bit i c (c / 2 ^ 29 + c / 2 ^ 26) t.c-run (c-next i c t.c-run));
      z-run = rw g (flipped z_bit i z (z / 2 ^ 30 + z / 2 ^ 28 + z / 2 ^ 27 + z / 2 ^ 26) t.z-run (z-next i z t.z-run));
    }
