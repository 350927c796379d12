-- The pair at c(0): both sequences 1600 steps on from their start, in one jump. Assumes nothing.
use mathlib.Core.Path.{◌≡◌, refl, ap, sym, ◌∙◌}
use mathlib.Core.List.{[], ◌∷◌}
use Prim.Native.Nat.{ℕ, ◌+◌, ◌%◌, ◌^◌}
use native.Mathlib.Omega.{arith}
use Rattle.gold.specs.declared.Registers.{Registers}
use Rattle.gold.specs.Sequence.{up_to, start1, rule1, start2, x1, x2, x1-recurrence, x2-start, x2-recurrence, binary, pair_at}
use Rattle.gold.specs.Window.{window, sums, offsets1, offsets2, offsets1600}
use Rattle.gold.proofs.Binary.{binary-same, x1-two, x2-two}
use Rattle.gold.proofs.Jumps.{sum_at, far, jump}
use Rattle.gold.proofs.Window.{exact, windowed, summed}

-- ---- x1, computed from its first 56 values
x1-rule : (n : ℕ) → x1 (n + 31) ≡ sum_at x1 offsets1 n % 2
x1-rule n = let e : x1 (n + 0) ≡ x1 n = ap x1 (omega arith) in omega (arith, x1-recurrence n)

x1-later : ℕ → ℕ
x1-later n = sum_at x1 (25 ∷ 20 ∷ 19 ∷ 17 ∷ 12 ∷ 9 ∷ 6 ∷ 5 ∷ 4 ∷ 3 ∷ 1 ∷ []) n % 2

x1-jump : (n : ℕ) → x1 (n + 1600) ≡ x1-later n
unfolding far x1-later
x1-jump = jump x1 x1-two offsets1 x1-rule 1600

x1-number : binary x1-later 0 31 ≡ 17631549
unfolding x1-later binary x1 up_to start1 rule1
x1-number = refl

x1-at : 17631549 ≡ binary x1 1600 31
x1-at =
    sym x1-number
    ∙ binary-same x1-later x1 0 1600 31 (λ i less. sym (x1-jump (0 + i)) ∙ ap x1 {x = 0 + i + 1600} {y = 1600 + i} (omega arith))

-- ---- x2, from the window of its first 59 values
module _ (ci : ℕ) where
  x2-rule : (n : ℕ) → x2 ci (n + 31) ≡ sum_at (x2 ci) offsets2 n % 2
  x2-rule n = let e : x2 ci (n + 0) ≡ x2 ci n = ap (x2 ci) (omega arith) in omega (arith, x2-recurrence ci n)

  x2-jump : (n : ℕ) → x2 ci (n + 1600) ≡ sum_at (x2 ci) offsets1600 n % 2
  unfolding far
  x2-jump = jump (x2 ci) (x2-two ci) offsets2 x2-rule 1600

  x2-start-held : binary (start2 ci) 0 31 ≡ binary (x2 ci) 0 31
  unfolding start2
  x2-start-held = binary-same (start2 ci) (x2 ci) 0 0 31 (λ i less. sym (x2-start ci (0 + i) (omega arith)))

  x2-at : (x y z : ℕ) → x ≡ binary (start2 ci) 0 31 → y ≡ sums x 3 offsets2 → z ≡ window x y → sums z 28 offsets1600 % 2 ^ 31 ≡ binary (x2 ci) 1600 31
  x2-at x y z e f g =
      summed (x2 ci) (x2-two ci) 1600 offsets1600 x2-jump 0 59 z
      (ap (λ (v : ℕ). v % 2 ^ 59) g
      ∙ windowed (x2 ci) (x2-two ci) 0 offsets2 x2-rule tt x y (exact (x2 ci) (x2-two ci) 0 31 x (e ∙ x2-start-held)) f)
      0 31 28 refl tt

-- what the calls of `start` give
pub start_is : (s : Registers) (ci x y z : ℕ) → x ≡ binary (start2 ci) 0 31 → y ≡ sums x 3 offsets2 → z ≡ window x y
    → s.x1 ≡ 17631549 → s.x2 ≡ sums z 28 offsets1600 % 2 ^ 31 → s ≡ pair_at ci 0
unfolding pair_at
start_is s ci x y z e f g a b = λ i. record { x1 = (a ∙ x1-at) i; x2 = (b ∙ x2-at ci x y z e f g) i }
