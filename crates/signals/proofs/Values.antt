-- The value of an element that a loop comes to, from the word, the pair or the signal's element at hand. Assumes nothing.
use Prim.Native.Nat.{ℕ, suc, ◌+◌, ◌-◌, ◌*◌, ◌/◌, ◌%◌, ◌^◌, ◌<◌}
use mathlib.Core.Path.{◌≡◌, ap, ◌∙◌}
use mathlib.Core.Bool.{true}
use native.Mathlib.Omega.{arith}
use lib.Dec.{eqb}
use lib.IntN.{ℤ, pos}
use lib.Pow.{shr-shr}
use mir.Syntax.{w8}
use mir.Val.{to_z, of_z}
use borrow.Author.Tests.{eqb-true}
use Rattle.base.specs.declared.Pair.{Pair}
use Rattle.base.specs.declared.Element.{Element}
use Rattle.base.specs.Signs.{flip}
use Rattle.base.specs.Bytes.{element_of}
use Rattle.base.specs.Digits.{dig}
use Rattle.base.proofs.Pairs.{pair-of}
use Rattle.gold.specs.declared.Registers.{Registers}
use Rattle.gold.specs.Steps.{after, output_of, word_of}
use Rattle.gold.proofs.Binary.{binary-digit}
use Rattle.gold.proofs.Laws.{after-after, output-lt}
use Rattle.codeword.specs.Streams.{outputs}
use Rattle.crs.specs.Crs.{word_value}
use Rattle.base.proofs.Fits.{level-held}
use Rattle.sync.specs.declared.Sss.{Sss}
use Rattle.sync.specs.Pss.{pss_phase}
use Rattle.sync.specs.Inner.{bit_in, level_in}
use Rattle.signals.specs.Signals.{crs_from}
use Rattle.signals.specs.Rows.{every_sixth, value_in, word_sent, pair_sent, phase_element, phase_sent, level_element, level_sent}
use Rattle.signals.proofs.Stretches.{sixth-of}

-- ---- value i of a word
pub word_value_lem :
    (word n first i : ℕ) {d : Pair} {el : Element} → d ≡ word_value (word / 2 ^ (2 * (n - 1 - i)) % 4) → el ≡ element_of 2 d
    → (e : ℕ) → eqb (first + 6 * i) e ≡ true → el ≡ word_sent word n first e
unfolding word_sent value_in
word_value_lem word n first i ed ee e t =
    let b : first + 6 * i ≡ e = eqb-true _ _ t in
    let j : i ≡ (e - first) / 6 = omega arith in
    ee ∙ ap (element_of 2) ed ∙ ap (λ (j : ℕ). element_of 2 (word_value (word / 2 ^ (2 * (n - 1 - j)) % 4))) j

-- ---- the values that the pair gives, a word at a time
-- bit a of the next word is bit 2m + a
pair-bit : (r : Registers) (m n a b t : ℕ) → b + suc a ≡ 2 * n → 2 * m + (0 + a) ≡ t → dig (word_of (after r (2 * m)) (2 * n)) b ≡ outputs r t
unfolding word_of outputs
pair-bit r m n a b t e f =
    binary-digit (λ (i : ℕ). output_of (after (after r (2 * m)) i)) (λ i. output-lt (after (after r (2 * m)) i)) 0 (2 * n) a b e
    ∙ ap output_of (after-after r (2 * m) (0 + a) ∙ ap (after r) f)

-- the value of two bits from bit j on, counted from the right
two-bits : (w j : ℕ) {a b : ℕ} → dig w (j + 1) ≡ a → dig w j ≡ b → word_value (w / 2 ^ j % 4) ≡ record { re = flip a (pos 1); im = flip b (pos 1) }
unfolding word_value dig
two-bits w j ea eb =
    pair-of
    (ap (λ (b : ℕ). flip b (pos 1)) (halved (w / 2 ^ j) ∙ ap (λ (x : ℕ). x % 2) (shr-shr w j 1) ∙ ea))
    (ap (λ (b : ℕ). flip b (pos 1)) (last (w / 2 ^ j) ∙ eb))
  where
    halved : (x : ℕ) → x % 4 / 2 ≡ x / 2 ^ 1 % 2
    halved x = omega arith

    last : (x : ℕ) → x % 4 % 2 ≡ x % 2
    last x = omega arith

-- value i of the next word is value m + i
value-bits : (r : Registers) (m n i : ℕ) → i < n → word_value (word_of (after r (2 * m)) (2 * n) / 2 ^ (2 * (n - 1 - i)) % 4) ≡ crs_from r (m + i)
unfolding crs_from
value-bits r m n i l =
    let j = 2 * (n - 1 - i) in
    two-bits (word_of (after r (2 * m)) (2 * n)) j
    (pair-bit r m n (2 * i) (j + 1) (2 * (m + i)) (omega arith) (omega arith))
    (pair-bit r m n (2 * i + 1) j (2 * (m + i) + 1) (omega arith) (omega arith))

pub pair-value :
    (r : Registers) (first m count word : ℕ) {pair : Registers} → pair ≡ after r (2 * m) → word ≡ word_of pair (2 * count)
    → (e : ℕ) → every_sixth (first + 6 * m) count e ≡ true → word_sent word count (first + 6 * m) e ≡ pair_sent r first e
unfolding word_sent value_in pair_sent
pair-value r first m count word ep ew e t =
    let d = sixth-of (first + 6 * m) count e t in
    let i = (e - (first + 6 * m)) / 6 in
    let j : m + i ≡ (e - first) / 6 = omega arith in
    let w : word ≡ word_of (after r (2 * m)) (2 * count) = ew ∙ ap (λ (x : Registers). word_of x (2 * count)) ep in
    ap (element_of 2) (ap (λ (x : ℕ). word_value (x / 2 ^ (2 * (count - 1 - i)) % 4)) w ∙ value-bits r m count i d.2 ∙ ap (crs_from r) j)

-- and the pair after them
pub pair-next : (r : Registers) (m count : ℕ) {pair next : Registers} → pair ≡ after r (2 * m) → next ≡ after pair (2 * count) → next ≡ after r (2 * (m + count))
pair-next r m count ep en =
    en ∙ ap (λ (x : Registers). after x (2 * count)) ep ∙ after-after r (2 * m) (2 * count) ∙ ap (after r) {x = 2 * m + 2 * count} {y = 2 * (m + count)} (omega arith)

-- ---- synchronisation: number i of 62
past_first : (first i : ℕ) → i ≡ first + i - first
past_first first i = omega arith

pub phase-made : (C i : ℕ) {phase : ℕ} → phase ≡ pss_phase C i → ◌≡◌ {A = Element} (record { byte = 63; i = phase; j = 0 }) (phase_element C i)
unfolding phase_element
phase-made C i e = ap (λ (x : ℕ). record { byte = 63; i = x; j = 0 }) e

pub phase-value : (C first i : ℕ) {el : Element} → el ≡ phase_element C i → el ≡ phase_sent C first (first + i)
unfolding phase_sent
phase-value C first i e = e ∙ ap (phase_element C) (past_first first i)

-- a level goes through an i8
pub level-made :
    (d : Sss) (i : ℕ) {level : ℤ} {el : Element} → level ≡ level_in d i → el ≡ element_of 1 (record { re = to_z w8 (of_z w8 level); im = pos 0 }) → el ≡ level_element d i
unfolding level_element level_in
level-made d i e ee = ee ∙ ap (λ (x : ℤ). element_of 1 (record { re = x; im = pos 0 })) (level-held (bit_in d i) e)

pub level-value : (d : Sss) (first i : ℕ) {el : Element} → el ≡ level_element d i → el ≡ level_sent d first (first + i)
unfolding level_sent
level-value d first i e = e ∙ ap (level_element d) (past_first first i)
