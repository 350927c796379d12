-- What the code computes of any pair: the pair after n steps, and the word of its next n bits. Assumes nothing.
use mathlib.Core.Path.{◌≡◌, ap, sym, ◌∙◌}
use mathlib.Core.List.{List}
use Prim.Native.Nat.{ℕ, ◌+◌, ◌-◌, ◌/◌, ◌%◌, ◌^◌, ◌≤◌, ◌<◌}
use native.Mathlib.Omega.{arith}
use lib.Bits.{bit_xor}
use Rattle.gold.specs.declared.Registers.{Registers}
use Rattle.gold.specs.Sequence.{binary}
use Rattle.gold.specs.Steps.{after, output_of, word_of}
use Rattle.gold.specs.Window.{window, sums, offsets1, offsets2}
use Rattle.gold.specs.Wide.{value, first, second}
use Rattle.gold.proofs.Binary.{binary-high}
use Rattle.gold.proofs.Window.{Holds, cut, windowed, added}
use Rattle.gold.proofs.Values.{value-two, Runs, holds-first, whole, rule, runs1, runs2}

-- ---- one register
module _ {π : Registers → ℕ} {f : ℕ → ℕ} {R : List ℕ} (u : Runs π f R) (r : Registers) where
  -- its window holds 59 values
  pub fills : (y z : ℕ) → y ≡ sums (π r) 3 R → z ≡ window (π r) y → Holds (value π r) 0 59 z
  fills y z e g =
      ap (λ (v : ℕ). v % 2 ^ 59) g
      ∙ windowed (value π r) (value-two π r) 0 R (rule u r) u.near (π r) y (holds-first u r) e

  -- the register after n steps is 31 of them
  moved : (n y z v : ℕ) → 1 ≤ n → n ≤ 28 → y ≡ sums (π r) 3 R → z ≡ window (π r) y → v ≡ z / 2 ^ (28 - n) % 2 ^ 31 → v ≡ π (after r n)
  moved n y z v some most e g h =
      h ∙ cut (value π r) (value-two π r) 0 59 z (fills y z e g) n 31 (28 - n) (omega arith)
      ∙ ap (λ (k : ℕ). binary (value π r) k 31) {x = 0 + n} {y = n} (omega arith)
      ∙ sym (whole u r n some)

-- what the calls of `advance` give
pub advance-is : (r s : Registers) (n y₁ z₁ y₂ z₂ : ℕ) → 1 ≤ n → n ≤ 28
    → y₁ ≡ sums r.x1 3 offsets1 → z₁ ≡ window r.x1 y₁ → s.x1 ≡ z₁ / 2 ^ (28 - n) % 2 ^ 31
    → y₂ ≡ sums r.x2 3 offsets2 → z₂ ≡ window r.x2 y₂ → s.x2 ≡ z₂ / 2 ^ (28 - n) % 2 ^ 31 → s ≡ after r n
advance-is r s n y₁ z₁ y₂ z₂ some most a b c d e f = λ i. record {
  x1 = moved runs1 r n y₁ z₁ s.x1 some most a b c i;
  x2 = moved runs2 r n y₂ z₂ s.x2 some most d e f i;
}

-- ---- the bits
abbrev pub outs : Registers → ℕ → ℕ
outs r i = (value first r i + value second r i) % 2

pub outs-two : (r : Registers) (i : ℕ) → outs r i < 2
outs-two r i = omega arith

-- both registers' w first values, added
pub outs-held : (r : Registers) (w a b : ℕ) → Holds (value first r) 0 w a → Holds (value second r) 0 w b → Holds (outs r) 0 w (bit_xor a b)
outs-held r w a b = added (value first r) (value second r) (value-two first r) (value-two second r) w a b

-- what `word` computes
pub word-is : (r : Registers) (n w : ℕ) → n ≤ 28 → w ≡ bit_xor r.x1 r.x2 % 2 ^ 31 / 2 ^ (31 - n) → w ≡ word_of r n
unfolding word_of output_of
word-is r n w most f =
    f ∙ ap (λ (v : ℕ). v / 2 ^ (31 - n)) (outs-held r 31 r.x1 r.x2 (holds-first runs1 r) (holds-first runs2 r))
    ∙ ap (λ (m : ℕ). binary (outs r) 0 m / 2 ^ (31 - n)) {x = 31} {y = n + (31 - n)} (omega arith)
    ∙ binary-high (outs r) (outs-two r) 0 n (31 - n)
