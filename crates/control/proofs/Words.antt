-- The bits of a word and of a register pair: two QPSK symbols from four bits of the CFI's codeword, and PHICH's twelve bits. Assumes
-- nothing.
use Prim.Native.Nat.{ℕ, zero, suc, ◌+◌, ◌-◌, ◌*◌, ◌/◌, ◌%◌, ◌≤◌, ◌<◌}
use mathlib.Core.Path.{◌≡◌, refl, sym, ap, ap₂, ◌∙◌}
use mathlib.Core.Bool.{Bool, true, false, not, ◌||◌}
use mathlib.Core.List.{List, [], ◌∷◌}
use native.Mathlib.Omega.{arith}
use lib.Bits.{bit_xor}
use lib.Dec.{T, ltb, ltb→lt, eqb, eqb→eq}
use lib.ListN.{get_or}
use borrow.Author.Tests.{eqb-true, eqb-false}
use mir.Val.{bool_byte}
use Rattle.base.proofs.Tests.{by-test}
use Rattle.base.proofs.Computed.{every, every-at, all_below, below_at}
use Rattle.gold.specs.declared.Registers.{Registers}
use Rattle.gold.specs.Sequence.{binary}
use Rattle.gold.specs.Steps.{after, output_of, word_of}
use Rattle.gold.proofs.Binary.{binary-same, binary-split, binary-lt, binary-digit}
use Rattle.gold.proofs.Laws.{after-after, output-lt}
use Rattle.modulation.specs.Symbols.{modulation_symbol}
use Rattle.codeword.specs.Codewords.{scrambled, data_symbol, cfi_bit}
use Rattle.codeword.specs.Streams.{outputs}
use Rattle.codeword.proofs.Laws.{scrambled-lt, outputs-lt, word-scrambled}
use Rattle.phich.specs.Spreading.{word_bit}

-- ---- what a register pair gives
-- the next n bits of the pair k steps on
pub word-from : (r : Registers) (k n : ℕ) → word_of (after r k) n ≡ binary (outputs r) k n
unfolding word_of outputs
word-from r k n = binary-same (λ (i : ℕ). output_of (after (after r k) i)) (outputs r) 0 k n
    (λ i l. let z : k + (0 + i) ≡ k + i = omega arith in ap output_of (after-after r k (0 + i) ∙ ap (after r) z))

-- PHICH's twelve bits
pub word-bits : (r : Registers) (w : ℕ) → w ≡ word_of r 12 → (e : ℕ) → e < 12 → word_bit w e ≡ outputs r e
unfolding word_bit word_of outputs
word-bits r w h e l =
    let z : 0 + e ≡ e = omega arith in
    rw h (binary-digit (λ (i : ℕ). output_of (after r i)) (λ i. output-lt (after r i)) 0 12 e (11 - e) (omega arith)) ∙ ap (outputs r) z

-- ---- scrambling by words
-- four scrambled bits are the symbols 2n and 2n + 1
module _ (b x : ℕ → ℕ) (n w : ℕ) (h : w ≡ binary (scrambled b x) (4 * n) 4) where
  halves : (w / 4 ≡ binary (scrambled b x) (4 * n) 2) × (w % 4 ≡ binary (scrambled b x) (4 * n + 2) 2)
  halves =
      let y : ℕ → ℕ = scrambled b x in
      let l : binary y (4 * n + 2) 2 < 4 = binary-lt y (scrambled-lt b x) (4 * n + 2) 2 in
      let s : binary y (4 * n) 4 ≡ binary y (4 * n) 2 * 4 + binary y (4 * n + 2) 2 = binary-split y (4 * n) 2 2 in
      (omega arith, omega arith)

  pub first-symbol : modulation_symbol 2 (w / 4) ≡ data_symbol 2 b x (2 * n)
  unfolding data_symbol
  first-symbol = let z : 4 * n ≡ 2 * (2 * n) = omega arith in ap (modulation_symbol 2) (halves.0 ∙ ap (λ (k : ℕ). binary (scrambled b x) k 2) z)

  pub second-symbol : modulation_symbol 2 (w % 4) ≡ data_symbol 2 b x (2 * n + 1)
  unfolding data_symbol
  second-symbol = let z : 4 * n + 2 ≡ 2 * (2 * n + 1) = omega arith in ap (modulation_symbol 2) (halves.1 ∙ ap (λ (k : ℕ). binary (scrambled b x) k 2) z)

-- ---- the CFI's codeword
abbrev codewords : List (List ℕ)
codewords = (0 ∷ 1 ∷ 1 ∷ []) ∷ (1 ∷ 0 ∷ 1 ∷ []) ∷ (1 ∷ 1 ∷ 0 ∷ []) ∷ []

pub cfi-two : (cfi i : ℕ) → cfi_bit cfi i < 2
unfolding cfi_bit
cfi-two cfi i =
    let digit : ℕ → Bool = λ v. ltb v 2 in
    ltb→lt (get_or (get_or codewords (cfi - 1) []) (i % 3) 0) 2
    (every-at digit 0 tt (get_or codewords (cfi - 1) []) (every-at (every digit) [] tt codewords tt (cfi - 1)) (i % 3))

-- a codeword's only 0 of three bits stands in its own place
zero-at : (k : ℕ) → k < 3 → 0 ≡ get_or (get_or codewords k []) k 0
zero-at zero l = refl
zero-at (suc zero) l = refl
zero-at (suc (suc zero)) l = refl
zero-at (suc (suc (suc k))) l = absurd (omega arith)

one_at : (r k : ℕ) → r < 3 → k < 3 → (k ≡ r → ⊥) → 1 ≡ get_or (get_or codewords r []) k 0
one_at r k l m n = eqb→eq 1 (get_or (get_or codewords r []) k 0) (test (eqb k r) refl (below_at (λ (x : ℕ). all_below (λ (y : ℕ). right x y) 3) 3 tt r l))
  where
    right : ℕ → ℕ → Bool
    right x y = eqb y x || eqb 1 (get_or (get_or codewords x []) y 0)

    test : (b : Bool) → eqb k r ≡ b → T (all_below (λ (y : ℕ). right r y) 3) → T (eqb 1 (get_or (get_or codewords r []) k 0))
    test true e h = absurd (n (eqb-true k r e))
    test false e h = rw e at (below_at (λ (y : ℕ). right r y) 3 h k m)

-- so the code's bit is the specification's
module _ (cfi i : ℕ) (some : 1 ≤ cfi) (most : cfi ≤ 3) where
  pub codeword-zero : i % 3 + 1 ≡ cfi → 0 ≡ cfi_bit cfi i
  unfolding cfi_bit
  codeword-zero e = let r : cfi - 1 ≡ i % 3 = omega arith in rw r (zero-at (i % 3) (omega arith))

  pub codeword-one : (i % 3 + 1 ≡ cfi → ⊥) → 1 ≡ cfi_bit cfi i
  unfolding cfi_bit
  codeword-one n = one_at (cfi - 1) (i % 3) (omega arith) (omega arith) (λ e. n (omega arith))

  -- as the code works it out
  pub codeword-bit : {w r : ℕ} → w ≡ cfi → r ≡ bool_byte (not (eqb (i % 3 + 1) w)) → (r ≡ cfi_bit cfi i) × (r < 2)
  codeword-bit ew er =
      by-test (eqb (i % 3 + 1) cfi)
      (λ t. let z = er ∙ rw (ew, t) refl in (z ∙ codeword-zero (eqb-true (i % 3 + 1) cfi t), omega (arith, z)))
      (λ f. let z = er ∙ rw (ew, f) refl in (z ∙ codeword-one (eqb-false (i % 3 + 1) cfi f), omega (arith, z)))

-- four bits as a word
four-bits : (x : ℕ → ℕ) (k : ℕ) → ((x k * 2 + x (k + 1)) * 2 + x (k + 2)) * 2 + x (k + 3) ≡ binary x k 4
unfolding binary
four-bits x k = let z : k + 0 ≡ k = omega arith in rw (ap x z) (omega arith)

pub bits-word : (x : ℕ → ℕ) (k a b c d : ℕ) → a ≡ x k → b ≡ x (k + 1) → c ≡ x (k + 2) → d ≡ x (k + 3) → ((a * 2 + b) * 2 + c) * 2 + d ≡ binary x k 4
bits-word x k a b c d e f g h = rw (e, f, g, h) (four-bits x k)

-- the four bits from 4n on, scrambled by the pair that has given 4n bits
pub scrambled-word : (cfi n : ℕ) (r s : Registers) (u v : ℕ) → s ≡ after r (4 * n) → u ≡ binary (cfi_bit cfi) (4 * n) 4 → v ≡ word_of s 4
    → bit_xor u v ≡ binary (scrambled (cfi_bit cfi) (outputs r)) (4 * n) 4
scrambled-word cfi n r s u v h a b =
    ap₂ bit_xor a (b ∙ ap (λ (q : Registers). word_of q 4) h ∙ word-from r (4 * n) 4)
    ∙ sym (word-scrambled (cfi_bit cfi) (outputs r) (cfi-two cfi) (outputs-lt r) (4 * n) 4)
