-- A word is the mark of I twice and the mark of J. Assumes nothing.
use Prim.Native.Nat.{ℕ, zero, suc, ◌+◌, ◌*◌, ◌/◌, ◌%◌, ◌^◌, ◌<◌}
use mathlib.Core.Path.{◌≡◌, refl, sym, ap, ap₂, ◌∙◌}
use mathlib.Core.Bool.{Bool, true, ◌&&◌}
use mathlib.Core.List.{List, [], ◌∷◌}
use native.Mathlib.Nat.{pow-succ', mul_left_comm}
use native.Mathlib.Omega.{arith}
use lib.ListN.{length}
use lib.IntN.{ℤ}
use Rattle.modulation.specs.Demapping.{level_bits, is_level, woven, number, Word, answer_of, demap_of}
use Rattle.modulation.specs.Marks.{mark_of}
use Rattle.modulation.proofs.Levels.{bits-length}
use Rattle.modulation.proofs.Places.{apart}
use Rattle.modulation.proofs.Symbols.{demap-only}

-- ---- digits of base 2 by turns from two lists are digits of base 4
four : (n : ℕ) → 2 ^ (n + n) ≡ 4 ^ n
four zero = refl
four (suc n) =
    let e : suc n + suc n ≡ suc (suc (n + n)) = omega arith in
    let r = four n in
    ap (λ (k : ℕ). 2 ^ k) e ∙ omega (arith, pow-succ' 2 (suc (n + n)), pow-succ' 2 (n + n), pow-succ' 4 n)

number-woven : (n : ℕ) (x y : List ℕ) → length x ≡ n → length y ≡ n → number 2 (woven x y) ≡ 2 * number 4 x + number 4 y
unfolding woven number
number-woven n [] [] e f = refl
number-woven n [] (b ∷ y) e f = absurd (omega arith)
number-woven n (a ∷ x) [] e f = absurd (omega arith)
number-woven zero (a ∷ x) (b ∷ y) e f = absurd (omega arith)
number-woven (suc n) (a ∷ x) (b ∷ y) e f =
    let m : length (woven x y) ≡ n + n = omega (arith, (apart x y (omega arith) (omega arith)).count) in
    let p : 2 ^ length (woven x y) ≡ 4 ^ n = ap (λ (k : ℕ). 2 ^ k) m ∙ four n in
    let ex : length x ≡ n = omega arith in
    let ey : length y ≡ n = omega arith in
    let px : 2 ^ length (woven x y) ≡ 4 ^ length x = p ∙ ap (λ (k : ℕ). 4 ^ k) (sym ex) in
    let py : 2 ^ length (woven x y) ≡ 4 ^ length y = p ∙ ap (λ (k : ℕ). 4 ^ k) (sym ey) in
    let i : a * 2 ^ suc (length (woven x y)) ≡ 2 * (a * 4 ^ length x) =
    ap (λ (k : ℕ). a * k) (pow-succ' 2 (length (woven x y)) ∙ ap (λ (k : ℕ). 2 * k) px) ∙ mul_left_comm a 2 (4 ^ length x) in
    let j : b * 2 ^ length (woven x y) ≡ b * 4 ^ length y = ap (λ (k : ℕ). b * k) py in
    omega (arith, number-woven n x y ex ey)

-- ---- what two tests answer
both-known : (t u : Bool) (w : ℕ) → t ≡ true → u ≡ true → answer_of (t && u) w ≡ Word w
both-known t u w e f = rw (e, f) refl

-- ---- words of q bits
module _ (q : ℕ) (even : q % 2 ≡ 0) where
  abbrev is : ℤ → Bool
  is z = is_level (q / 2) z

  part : ℤ → ℕ
  part z = number 4 (level_bits (q / 2) z)

  told : (y z : ℤ) → demap_of q (record { re = y; im = z }) ≡ answer_of (is y && is z) (2 * part y + part z)
  unfolding demap_of part
  told y z =
      let e : (q + 1) / 2 ≡ q / 2 = omega arith in
      rw e (ap (answer_of (is y && is z)) (number-woven (q / 2) _ _ (bits-length (q / 2) y) (bits-length (q / 2) z)))

  known-mark : (z : ℤ) → is z ≡ true → mark_of (q / 2) z ≡ part z
  unfolding mark_of part
  known-mark z e = rw e refl

  pub bits-told : (y z : ℤ) → is y ≡ true → is z ≡ true → (i j : ℕ) → i ≡ mark_of (q / 2) y → j ≡ mark_of (q / 2) z →
      (demap_of q (record { re = y; im = z }) ≡ Word (2 * i + j)) × (2 * i + j < 2 ^ q)
  bits-told y z ky kz i j ei ej =
      let e : demap_of q (record { re = y; im = z }) ≡ Word (2 * i + j) =
      told y z ∙ both-known (is y) (is z) (2 * part y + part z) ky kz
      ∙ ap Word (ap₂ (λ (m n : ℕ). 2 * m + n) (sym (ei ∙ known-mark y ky)) (sym (ej ∙ known-mark z kz))) in
      (e, (demap-only q (record { re = y; im = z }) (2 * i + j) e).1)
