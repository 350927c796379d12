-- A word and its binary digits. Assumes nothing.
use Prim.Native.Nat.{ℕ, zero, suc, ◌+◌, ◌*◌, ◌/◌, ◌%◌, ◌^◌, ◌≤◌, ◌<◌}
use mathlib.Core.Path.{◌≡◌, refl, sym, ap, ap₂, ◌∙◌}
use mathlib.Core.List.{List, [], ◌∷◌}
use native.Mathlib.Nat.{pow-succ'}
use native.Mathlib.Omega.{arith}
use lib.ListN.{length}
use lib.Arith.{digits_lt}
use lib.Pow.{high, low, mod-pow-add}
use Rattle.base.specs.Digits.{dig, dig-two, dig-mod}
use Rattle.modulation.specs.Symbols.{bits_of}
use Rattle.modulation.specs.Demapping.{number}
use Rattle.modulation.proofs.Levels.{Bits}

pub word-length : (q w : ℕ) → length (bits_of q w) ≡ q
unfolding bits_of
word-length zero w = refl
word-length (suc q) w = ap suc (word-length q w)

pub word-bits : (q w : ℕ) → Bits (bits_of q w)
unfolding bits_of Bits
word-bits zero w = tt
word-bits (suc q) w = (omega (arith, dig-two w q), word-bits q w)

-- only the lowest q digits count
pub word_low : (k q w : ℕ) → q ≤ k → bits_of q (w % 2 ^ k) ≡ bits_of q w
unfolding bits_of
word_low k zero w h = refl
word_low k (suc q) w h = ap₂ (λ (b : ℕ) (bs : List ℕ). b ∷ bs) (dig-mod w k q h) (word_low k q w (omega arith))

-- the number of a word's digits
pub number_word : (q w : ℕ) → number 2 (bits_of q w) ≡ w % 2 ^ q
unfolding bits_of number dig
number_word zero w = omega arith
number_word (suc q) w =
    let one : 1 + q ≡ suc q = omega arith in
    ap₂ (λ (x y : ℕ). w / 2 ^ q % 2 * 2 ^ x + y) (word-length q w) (number_word q w) ∙ sym (mod-pow-add w 1 q) ∙ ap (λ (n : ℕ). w % 2 ^ n) one

pub number_small : (bs : List ℕ) → Bits bs → number 2 bs < 2 ^ length bs
unfolding number Bits
number_small [] ok = omega arith
number_small (b ∷ bs) ok = rw pow-succ' (digits_lt {q = b} {m = 2} (omega (arith, ok.0)) (number_small bs ok.1))

-- and the digits of a number
pub word_number : (bs : List ℕ) → Bits bs → bits_of (length bs) (number 2 bs) ≡ bs
unfolding bits_of number Bits dig
word_number [] ok = refl
word_number (b ∷ bs) ok =
    let n = length bs in
    let r = number 2 bs in
    let h = number_small bs ok.1 in
    let one : b % 2 ≡ b = omega (arith, ok.0) in
    ap₂ (λ (x : ℕ) (xs : List ℕ). x ∷ xs) (ap (λ (x : ℕ). x % 2) (high b n h) ∙ one)
    (sym (word_low n n (b * 2 ^ n + r) (omega arith)) ∙ ap (bits_of n) (low b n h) ∙ word_number bs ok.1)
