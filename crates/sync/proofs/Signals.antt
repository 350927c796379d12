-- The secondary signal in its two words, and its levels. Assumes nothing.
use Prim.Native.Nat.{ℕ, zero, suc, ◌+◌, ◌/◌, ◌%◌, ◌^◌, ◌<◌}
use mathlib.Core.Path.{◌≡◌, refl, ap, ap₂, ◌∙◌}
use mathlib.Core.Bool.{Bool, true, false, cond}
use native.Mathlib.Omega.{arith}
use borrow.Author.Tests.{eq-eqb, ne_eqb}
use lib.Bits.{bit_xor}
use lib.Dec.{eqb}
use lib.IntN.{pos}
use Rattle.base.specs.Signs.{flip}
use Rattle.base.specs.Digits.{dig}
use Rattle.sync.specs.declared.Indices.{Indices}
use Rattle.sync.specs.declared.Sss.{Sss}
use Rattle.sync.specs.declared.Words.{Words}
use Rattle.sync.specs.Sss.{s01, c1, z1, s_bit, c_bit, z_bit, sss_even, sss_odd, sss_bit, sss_level}
use Rattle.sync.specs.Inner.{Sequences, indices_of, low_first, sss_of, bit_in, level_in, around_of, signs_of}
use Rattle.sync.proofs.Bits.{low-first-bit, low-first-is, holds_same, holds-xor, holds-around}

-- ---- a product of signs is the sum of their bits mod 2: (1 − 2a)(1 − 2b) is the sign of a + b mod 2
pub signs-multiply : (a b : ℕ) → a < 2 → b < 2 → flip ((a + b) % 2) (pos 1) ≡ flip a (flip b (pos 1))
signs-multiply zero zero h k = refl
signs-multiply zero (suc zero) h k = refl
signs-multiply (suc zero) zero h k = refl
signs-multiply (suc zero) (suc zero) h k = refl
signs-multiply (suc (suc a)) b h k = absurd (omega arith)
signs-multiply zero (suc (suc b)) h k = absurd (omega arith)
signs-multiply (suc zero) (suc (suc b)) h k = absurd (omega arith)

-- ---- the words that the sequences make
pub signs-are : (x : Words) (a b n2 : ℕ) → Sequences x → (a < 31) × (b < 31) × (n2 < 3) → {p q r s t : ℕ}
    → p ≡ around_of x.s a → q ≡ around_of x.c n2
    → r ≡ around_of x.s b → s ≡ around_of x.c (n2 + 3) → t ≡ around_of x.z (a % 8)
    → ◌≡◌ {A = Sss} (record { even = bit_xor p q; odd = bit_xor (bit_xor r s) t }) (signs_of a b n2)
unfolding signs_of
signs-are x a b n2 h less {p} {q} {r} {s} {t} ep eq er es et =
    rw (ep, eq, er, es, et)
    (ap₂ (λ (v w : ℕ). record { even = v; odd = w })
    (low-first-is (holds-xor (holds-around a (omega arith) h.s-bits) (holds-around n2 (omega arith) h.c-bits)))
    (low-first-is (holds_same sums (holds-xor (holds-xor (holds-around b (omega arith) h.s-bits) (holds-around (n2 + 3) (omega arith) h.c-bits))
    (holds-around (a % 8) (omega arith) h.z-bits)))))
  where
    mod2 : (u v w : ℕ) → ((u + v) % 2 + w) % 2 ≡ (u + v + w) % 2
    mod2 u v w = omega arith

    sums : (n : ℕ) → ((s_bit ((n + b) % 31) + c_bit ((n + (n2 + 3)) % 31)) % 2 + z_bit ((n + a % 8) % 31)) % 2 ≡ (s01 b n + c1 n2 n + z1 a n) % 2
    sums n =
        let e : n + (n2 + 3) ≡ n + n2 + 3 = omega arith in
        ap (λ (k : ℕ). ((s_bit ((n + b) % 31) + c_bit (k % 31)) % 2 + z_bit ((n + a % 8) % 31)) % 2) e
        ∙ mod2 (s01 b n) (c1 n2 n) (z1 a n)

-- ---- in subframe 5 the indices change places
pub signal-five : (C f : ℕ) (p : Indices) → p ≡ indices_of (C / 3) → f ≡ 5 → signs_of p.m1 p.m0 (C % 3) ≡ sss_of C f
unfolding signs_of sss_of sss_even sss_odd indices_of
signal-five C f p e h = rw (e, h) refl

pub signal-zero : (C f : ℕ) (p : Indices) → p ≡ indices_of (C / 3) → (f ≡ 5 → ⊥) → signs_of p.m0 p.m1 (C % 3) ≡ sss_of C f
unfolding signs_of sss_of sss_even sss_odd indices_of
signal-zero C f p e h = rw (e, ne_eqb f 5 h) refl

-- ---- the levels
even-two : (b : Bool) (C n : ℕ) → sss_even b C n < 2
unfolding sss_even
even-two false C n = omega arith
even-two true C n = omega arith

odd-two : (b : Bool) (C n : ℕ) → sss_odd b C n < 2
unfolding sss_odd
odd-two false C n = omega arith
odd-two true C n = omega arith

-- THE LAW OF LEVELS: what the words hold is the signal
pub level-is : (C f i : ℕ) → i < 62 → level_in (sss_of C f) i ≡ sss_level C f i
unfolding level_in bit_in sss_of sss_level sss_bit
level-is C f i h = ap (λ (b : ℕ). flip b (pos 1)) (pick (eqb (i % 2) 0))
  where
    pick : (t : Bool) → dig (cond t (low_first (sss_even (eqb f 5) C) 31) (low_first (sss_odd (eqb f 5) C) 31)) (i / 2)
        ≡ cond t (sss_even (eqb f 5) C (i / 2)) (sss_odd (eqb f 5) C (i / 2))
    pick true = low-first-bit (sss_even (eqb f 5) C) (even-two (eqb f 5) C) 31 (i / 2) (omega arith)
    pick false = low-first-bit (sss_odd (eqb f 5) C) (odd-two (eqb f 5) C) 31 (i / 2) (omega arith)

pub bit-even : (s : Sss) (i : ℕ) → i % 2 ≡ 0 → s.even / 2 ^ (i / 2) % 2 ≡ bit_in s i
unfolding bit_in dig
bit-even s i e = rw (eq-eqb (i % 2) 0 e) refl

pub bit-odd : (s : Sss) (i : ℕ) → (i % 2 ≡ 0 → ⊥) → s.odd / 2 ^ (i / 2) % 2 ≡ bit_in s i
unfolding bit_in dig
bit-odd s i e = rw (ne_eqb (i % 2) 0 e) refl
