-- Bytes as words, 24 bits more, and two symbols out of a word. Assumes nothing.
use mathlib.Core.Path.{◌≡◌, refl, sym, ap, ap₂, ◌∙◌}
use mathlib.Core.List.{List}
use Prim.Native.Nat.{ℕ, zero, suc, ◌+◌, ◌-◌, ◌*◌, ◌/◌, ◌%◌, ◌^◌, ◌<◌}
use native.Mathlib.Omega.{arith}
use lib.ListN.{get_or}
use lib.Bits.{bit_xor}
use Rattle.base.specs.Bits.{bit_at}
use Rattle.gold.specs.declared.Registers.{Registers}
use Rattle.gold.specs.Sequence.{binary}
use Rattle.gold.specs.Steps.{after, output_of, word_of}
use Rattle.gold.proofs.Binary.{binary-same, binary-split}
use Rattle.gold.proofs.Window.{halve}
use Rattle.gold.proofs.Laws.{after-after}
use Rattle.modulation.specs.Symbols.{evens, odds, level, modulation_symbol}
use Rattle.modulation.proofs.Words.{word_low}
use Rattle.codeword.specs.Codewords.{scrambled}
use Rattle.codeword.specs.Streams.{outputs}
use Rattle.codeword.proofs.Laws.{outputs-lt, word-scrambled}

-- ---- bytes
pub bit-lt : (s : List ℕ) (i : ℕ) → bit_at s i < 2
unfolding bit_at
bit-lt s i = omega arith

-- bit n of byte a
bit-of : (s : List ℕ) (a n m : ℕ) → n + suc m ≡ 8 → bit_at s (8 * a + n) ≡ get_or s a 0 / 2 ^ m % 2
unfolding bit_at
bit-of s a n m e =
    let i : (8 * a + n) / 8 ≡ a = omega arith in
    let k : 7 - (8 * a + n) % 8 ≡ m = omega arith in
    ap₂ (λ (u v : ℕ). get_or s u 0 / 2 ^ v % 2) i k

-- the first n bits of byte a
byte-top : (s : List ℕ) (a n m : ℕ) → get_or s a 0 < 256 → n + m ≡ 8 → binary (bit_at s) (8 * a) n ≡ get_or s a 0 / 2 ^ m
unfolding binary
byte-top s a zero m h e =
    let k : 8 ≡ m = omega arith in
    none (get_or s a 0) h ∙ ap (λ (j : ℕ). get_or s a 0 / 2 ^ j) k
  where
    none : (v : ℕ) → v < 256 → 0 ≡ v / 2 ^ 8
    none v h = omega arith
byte-top s a (suc n) m h e =
    ap₂ (λ (u v : ℕ). u * 2 + v) (byte-top s a n (suc m) h (omega arith) ∙ halve (get_or s a 0) m) (bit-of s a n m (omega arith))
    ∙ whole (get_or s a 0 / 2 ^ m)
  where
    whole : (u : ℕ) → u / 2 * 2 + u % 2 ≡ u
    whole u = omega arith

pub byte_word : (s : List ℕ) (a : ℕ) → get_or s a 0 < 256 → binary (bit_at s) (8 * a) 8 ≡ get_or s a 0
byte_word s a h = byte-top s a 8 0 h refl ∙ one (get_or s a 0)
  where
    one : (v : ℕ) → v / 1 ≡ v
    one v = omega arith

-- three bytes: what `bytes_at` computes
pub three-bytes : (s : List ℕ) (a u v w : ℕ) → (u ≡ get_or s a 0) × (u < 256) → (v ≡ get_or s (a + 1) 0) × (v < 256)
    → (w ≡ get_or s (a + 2) 0) × (w < 256) → u * 65536 + v * 256 + w ≡ binary (bit_at s) (8 * a) 24
three-bytes s a u v w hu hv hw =
    let x = bit_at s in
    let k : 8 * a + 8 ≡ 8 * (a + 1) = omega arith in
    let l : 8 * a + 16 ≡ 8 * (a + 2) = omega arith in
    let p : binary x (8 * a) 8 ≡ u = byte_word s a (omega arith) ∙ sym hu.0 in
    let q : binary x (8 * a + 8) 8 ≡ v = ap (λ (j : ℕ). binary x j 8) k ∙ byte_word s (a + 1) (omega arith) ∙ sym hv.0 in
    let r : binary x (8 * a + 16) 8 ≡ w = ap (λ (j : ℕ). binary x j 8) l ∙ byte_word s (a + 2) (omega arith) ∙ sym hw.0 in
    let m : binary x (8 * a) 16 ≡ binary x (8 * a) 8 * 256 + binary x (8 * a + 8) 8 = binary-split x (8 * a) 8 8 in
    let n : binary x (8 * a) 24 ≡ binary x (8 * a) 16 * 256 + binary x (8 * a + 16) 8 = binary-split x (8 * a) 16 8 in
    omega arith

-- ---- the next bits
-- the bits that a pair gives after n steps
outputs-after : (r : Registers) (n i : ℕ) → outputs (after r n) i ≡ outputs r (n + i)
unfolding outputs
outputs-after r n i = ap output_of (after-after r n i)

pub word_after : (r : Registers) (n k : ℕ) → word_of (after r n) k ≡ binary (outputs r) n k
unfolding word_of outputs
word_after r n k =
    binary-same (outputs (after r n)) (outputs r) 0 n k
    (λ i less. ap (outputs (after r n)) {x = 0 + i} {y = i} (omega arith) ∙ outputs-after r n i)

pub more-word : (bits : List ℕ) (r : Registers) (k n : ℕ)
    → bit_xor (binary (bit_at bits) k n) (word_of (after r k) n) ≡ binary (scrambled (bit_at bits) (outputs r)) k n
more-word bits r k n =
    ap (bit_xor (binary (bit_at bits) k n)) (word_after r k n)
    ∙ sym (word-scrambled (bit_at bits) (outputs r) (bit-lt bits) (outputs-lt r) k n)

-- a symbol looks at the q lowest bits only
pub symbol_low : (q w : ℕ) → modulation_symbol q (w % 2 ^ q) ≡ modulation_symbol q w
unfolding modulation_symbol
symbol_low q w = ap (λ (bs : List ℕ). record { re = level (evens bs); im = level (odds bs) }) (word_low q q w (omega arith))
