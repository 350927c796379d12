-- For inner contracts only: this crate's loops and functions, and the crates that write or compare the signals. Laws tie each to specs/Sss.antt.
use Rattle.std.specs.Prelude.{ℕ, zero, suc, ◌+◌, ◌*◌, ◌/◌, ◌%◌, ◌^◌, ◌<◌, ◌≡◌, cond, eqb, ℤ, pos}
use Rattle.base.specs.Signs.{flip}
use Rattle.base.specs.Digits.{dig}
use Rattle.sync.specs.declared.Indices.{Indices}
use Rattle.sync.specs.declared.Sss.{Sss}
use Rattle.sync.specs.declared.Words.{Words}
use Rattle.sync.specs.Sss.{m0_of, m1_of, s_bit, c_bit, z_bit, s01, c0, c1, z1, sss_even, sss_odd}

-- a word of 31 bits that has x(i) at bit i
pub record Holds (x : ℕ → ℕ) (w : ℕ) : Type 0 where
  pub small : w < 2 ^ 31
  pub bit : (i : ℕ) → i < 31 → dig w i ≡ x i

pub record Sequences (r : Words) : Type 0 where
  pub s-bits : Holds s_bit r.s
  pub c-bits : Holds c_bit r.c
  pub z-bits : Holds z_bit r.z

-- one bit down, and the parity of a sum at bit 30
abbrev pub pushed_of : ℕ → ℕ → ℕ
pushed_of w sum = w / 2 + sum % 2 * 2 ^ 30

-- 31 bits, from bit k on, of the word written twice
unfoldable pub around_of : ℕ → ℕ → ℕ
around_of w k = w * (2 ^ 31 + 1) / 2 ^ k % 2 ^ 31

-- both indices of a group
unfoldable pub indices_of : ℕ → Indices
indices_of D = record { m0 = m0_of D; m1 = m1_of D }

-- ---- the signal in two words: bit n of `even` is that of d(2n), bit n of `odd` that of d(2n+1)
-- the number whose bits are f 0, f 1, .., f (n − 1), the lowest first
unfoldable pub low_first : (ℕ → ℕ) → ℕ → ℕ
low_first f zero = 0
low_first f (suc n) = f n * 2 ^ n + low_first f n

unfoldable pub sss_of : ℕ → ℕ → Sss
sss_of C f = record { even = low_first (sss_even (eqb f 5) C) 31; odd = low_first (sss_odd (eqb f 5) C) 31 }

-- the bit and the level at place i of a signal in words
unfoldable pub bit_in : Sss → ℕ → ℕ
bit_in s i = dig (cond (eqb (i % 2) 0) s.even s.odd) (i / 2)

unfoldable pub level_in : Sss → ℕ → ℤ
level_in s i = flip (bit_in s i) (pos 1)

-- 36.211's two forms of the signal, for subframes 0 and 5, are one with the indices exchanged
unfoldable pub signs_of : ℕ → ℕ → ℕ → Sss
signs_of a b n2 =
    record {
      even = low_first (λ (n : ℕ). (s01 a n + c0 n2 n) % 2) 31;
      odd = low_first (λ (n : ℕ). (s01 b n + c1 n2 n + z1 a n) % 2) 31;
    }
