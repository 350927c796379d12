-- The values that a register pair holds and goes on to, whatever its bits: each register on the way holds 31 of them, and they keep the
-- recurrences. Assumes nothing.
use mathlib.Core.Path.{◌≡◌, refl, ap, sym, ◌∙◌}
use mathlib.Core.List.{List}
use Prim.Native.Nat.{ℕ, zero, suc, ◌+◌, ◌-◌, ◌/◌, ◌%◌, ◌^◌, ◌<◌, ◌≤◌}
use native.Mathlib.Omega.{arith}
use lib.Dec.{T}
use Rattle.base.specs.Digits.{dig, dig-two, dig-shr, dig-mod}
use Rattle.gold.specs.declared.Registers.{Registers}
use Rattle.gold.specs.Sequence.{binary}
use Rattle.gold.specs.Steps.{shift, sum1, sum2, stepped, after}
use Rattle.gold.specs.Window.{offsets1, offsets2}
use Rattle.gold.specs.Wide.{value, first, second}
use Rattle.gold.proofs.Jumps.{sum_at, within, sum_same}
use Rattle.gold.proofs.Window.{Holds, spelled}

-- ---- one step moves the bits up, and its sum comes in
slid : (y b j : ℕ) → b < 2 → j < 30 → dig (shift y b) (suc j) ≡ dig y j
slid y b j h less =
    ap (dig (shift y b)) {x = suc j} {y = 1 + j} (omega arith)
    ∙ sym (dig-shr (shift y b) 1 j)
    ∙ ap (λ (z : ℕ). dig z j) {x = shift y b / 2} {y = y % 2 ^ 30} (omega arith)
    ∙ dig-mod y 30 j less

came : (y b : ℕ) → b < 2 → dig (shift y b) 0 ≡ b
unfolding dig
came y b h = omega arith

-- ---- the values of a register
pub value-two : (π : Registers → ℕ) (r : Registers) (i : ℕ) → value π r i < 2
value-two π r i = dig-two (π (after r i)) 30

-- the register steps by the sum f at the offsets R
pub record Runs (π : Registers → ℕ) (f : ℕ → ℕ) (R : List ℕ) : Type 0 where
  pub steps : (r : Registers) → π (stepped r) ≡ shift (π r) (f (π r))
  pub sum : (y : ℕ) → f y ≡ sum_at (λ (j : ℕ). dig y (30 - j)) R 0 % 2
  pub near : T (within 3 R)
  pub near26 : T (within 26 R)

module _ {π : Registers → ℕ} {f : ℕ → ℕ} {R : List ℕ} (u : Runs π f R) (r : Registers) where
  bit : (y : ℕ) → f y < 2
  bit y = omega (arith, u.sum y)

  held : (i j n : ℕ) → j + i ≡ 30 → dig (π (after r n)) j ≡ value π r (n + i)
  unfolding after
  held zero j n e =
      let p : n ≡ n + 0 = omega arith in
      let q : j ≡ 30 = omega arith in
      λ t. dig (π (after r (p t))) (q t)
  held (suc i) j n e =
      let y = π (after r n) in
      sym (slid y (f y) j (bit y) (omega arith))
      ∙ ap (λ (v : ℕ). dig v (suc j)) (sym (u.steps (after r n)))
      ∙ held i (suc j) (suc n) (omega arith)
      ∙ ap (value π r) {x = suc n + i} {y = n + suc i} (omega arith)

  -- the register holds its first 31 values, and no more once it has stepped
  pub holds-first : Holds (value π r) 0 31 (π r)
  unfolding after
  holds-first = spelled (value π r) 0 31 (π r) (λ i j e. held i j 0 (omega arith))

  pub whole : (n : ℕ) → 1 ≤ n → π (after r n) ≡ binary (value π r) n 31
  unfolding after
  whole zero some = absurd (omega arith)
  whole (suc n) some =
      let y = π (after r n) in
      let e : π (after r (suc n)) ≡ shift y (f y) = u.steps (after r n) in
      let b : f y < 2 = bit y in
      let l : π (after r (suc n)) ≡ π (after r (suc n)) % 2 ^ 31 = omega arith in
      l ∙ spelled (value π r) (suc n) 31 (π (after r (suc n))) (λ i j g. held i j (suc n) (omega arith))

  -- the recurrence
  pub rule : (n : ℕ) → value π r (n + 31) ≡ sum_at (value π r) R n % 2
  unfolding after
  rule n =
      let y = π (after r n) in
      ap (value π r) {x = n + 31} {y = suc n + 30} (omega arith)
      ∙ sym (held 30 0 (suc n) refl)
      ∙ ap (λ (v : ℕ). dig v 0) (u.steps (after r n))
      ∙ came y (f y) (bit y)
      ∙ u.sum y
      ∙ ap (λ (s : ℕ). s % 2) (sum_same (λ (j : ℕ). dig y (30 - j)) (value π r) 0 n 3 (λ j le. held j (30 - (0 + j)) n (omega arith)) R u.near)

-- ---- both registers
pub runs1 : Runs first sum1 offsets1
unfolding stepped
runs1 = record { steps = λ r. refl; sum = λ y. omega arith; near = tt; near26 = tt }

pub runs2 : Runs second sum2 offsets2
unfolding stepped
runs2 = record { steps = λ r. refl; sum = λ y. omega arith; near = tt; near26 = tt }
