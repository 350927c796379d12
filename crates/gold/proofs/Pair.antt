-- The pair runs through both sequences, from number n of each to number n + 1 in one step. Assumes nothing.
use mathlib.Core.Path.{◌≡◌, refl, ap, sym, ◌∙◌}
use Prim.Native.Nat.{ℕ, zero, suc, ◌+◌, ◌*◌, ◌%◌, ◌^◌, ◌<◌}
use native.Mathlib.Omega.{arith}
use Rattle.base.specs.Digits.{dig}
use Rattle.gold.specs.declared.Registers.{Registers}
use Rattle.gold.specs.Sequence.{x1, x2, x1-recurrence, x2-recurrence, binary}
use Rattle.gold.specs.Steps.{shift, sum1, sum2, stepped, after, output_of}
use Rattle.gold.proofs.Binary.{binary-more, binary-split, binary-lt, binary-digit, x1-two, x2-two}

-- the pair that stands at number n of both
abbrev pub standing : ℕ → ℕ → Registers
standing ci n = record { x1 = binary x1 n 31; x2 = binary (x2 ci) n 31 }

-- ---- a register that holds x(n), .., x(n + 30)
module _ (x : ℕ → ℕ) (two : (i : ℕ) → x i < 2) (n : ℕ) where
  slides : shift (binary x n 31) (x (n + 31)) ≡ binary x (n + 1) 31
  slides =
      let e : binary x n 31 ≡ binary x n 1 * 2 ^ 30 + binary x (n + 1) 30 = binary-split x n 1 30 in
      let b : binary x (n + 1) 30 < 2 ^ 30 = binary-lt x two (n + 1) 30 in
      let m : binary x (n + 1) 31 ≡ binary x (n + 1) 30 * 2 + x (n + 1 + 30) = binary-more x (n + 1) 30 in
      let p : x (n + 1 + 30) ≡ x (n + 31) = ap x (omega arith) in
      omega arith

  holds : (i j : ℕ) → j + i ≡ 30 → dig (binary x n 31) j ≡ x (n + i)
  holds i j e = binary-digit x two n 31 i j (omega arith)

  first : dig (binary x n 31) 30 ≡ x n
  first = holds 0 30 refl ∙ ap x (omega arith)

-- ---- one step, and n
sum1-is : (n : ℕ) → sum1 (binary x1 n 31) ≡ x1 (n + 31)
sum1-is n = (λ i. (holds x1 x1-two n 3 27 refl i + first x1 x1-two n i) % 2) ∙ sym (x1-recurrence n)

sum2-is : (ci n : ℕ) → sum2 (binary (x2 ci) n 31) ≡ x2 ci (n + 31)
sum2-is ci n =
    let at = holds (x2 ci) (x2-two ci) n in
    (λ i. (at 3 27 refl i + at 2 28 refl i + at 1 29 refl i + first (x2 ci) (x2-two ci) n i) % 2) ∙ sym (x2-recurrence ci n)

one-step : (ci n : ℕ) → stepped (standing ci n) ≡ standing ci (n + 1)
unfolding stepped
one-step ci n = λ i. record {
  x1 = (ap (shift (binary x1 n 31)) (sum1-is n) ∙ slides x1 x1-two n) i;
  x2 = (ap (shift (binary (x2 ci) n 31)) (sum2-is ci n) ∙ slides (x2 ci) (x2-two ci) n) i;
}

pub along : (ci m n : ℕ) → after (standing ci m) n ≡ standing ci (m + n)
unfolding after
along ci m zero = ap (standing ci) {x = m} {y = m + 0} (omega arith)
along ci m (suc n) =
    ap stepped (along ci m n) ∙ one-step ci (m + n) ∙ ap (standing ci) {x = m + n + 1} {y = m + suc n} (omega arith)

pub gives : (ci n : ℕ) → output_of (standing ci n) ≡ (x1 n + x2 ci n) % 2
unfolding output_of
gives ci n = λ i. (first x1 x1-two n i + first (x2 ci) (x2-two ci) n i) % 2
