-- What the promises cite. TS 36.211 7.2, document 01 "Sequence": the pseudo-random sequence c(n), a Gold sequence of length 31.
-- Below the definitions stand the paper's own sentences, proved of them.
use Rattle.std.specs.Prelude.{◌≡◌, refl, cond, eqb}
use Rattle.std.proofs.Common.{sym, ◌∙◌, zero-add, suc-add, arith, eq-eqb, ne_eqb}
use Rattle.std.proofs.Math.Path.{ap}
use Prim.Native.Nat.{ℕ, zero, suc, ◌+◌, ◌*◌, ◌/◌, ◌%◌, ◌^◌, ◌<◌}
use Rattle.gold.specs.declared.Registers.{Registers}

-- A sequence x of which the first 31 values are given, and x(n + 31) by a rule from those before: value i, as far as x(n + 30).
unfoldable pub up_to : (ℕ → ℕ) → ((ℕ → ℕ) → ℕ → ℕ) → ℕ → ℕ → ℕ
up_to start rule zero i = start i
up_to start rule (suc n) i = cond (eqb i (n + 31)) (rule (up_to start rule n) n) (up_to start rule n i)

-- "x1 starts 1 and thirty 0s"
unfoldable pub start1 : ℕ → ℕ
start1 zero = 1
start1 (suc i) = 0

-- "x1(n+31) = x1(n+3)+x1(n)", mod 2
unfoldable pub rule1 : (ℕ → ℕ) → ℕ → ℕ
rule1 x n = (x (n + 3) + x n) % 2

-- x1(n)
unfoldable pub x1 : ℕ → ℕ
x1 n = up_to start1 rule1 n n

-- "x2 with bits of c_init, lowest first"
unfoldable pub start2 : ℕ → ℕ → ℕ
start2 ci i = ci / 2 ^ i % 2

-- "x2(n+31) = x2(n+3)+x2(n+2)+x2(n+1)+x2(n)", mod 2
unfoldable pub rule2 : (ℕ → ℕ) → ℕ → ℕ
rule2 x n = (x (n + 3) + x (n + 2) + x (n + 1) + x n) % 2

-- x2(n) of a c_init
unfoldable pub x2 : ℕ → ℕ → ℕ
x2 ci n = up_to (start2 ci) rule2 n n

-- "c(n) = x1(n+1600) + x2(n+1600) mod 2", of a c_init
unfoldable pub c : ℕ → ℕ → ℕ
c ci n = (x1 (n + 1600) + x2 ci (n + 1600)) % 2

-- The number whose n binary digits, the first most significant, are x(k), .., x(k + n - 1).
unfoldable pub binary : (ℕ → ℕ) → ℕ → ℕ → ℕ
binary x k zero = 0
binary x k (suc n) = binary x k n * 2 + x (k + n)

-- "The register pair" (document 01) of a c_init, where it stands at c(k): the next 31 values of x1 and of x2, each as a number.
unfoldable pub pair_at : ℕ → ℕ → Registers
pair_at ci k = record { x1 = binary x1 (k + 1600) 31; x2 = binary (x2 ci) (k + 1600) 31 }

-- ---- the paper's sentences: x1-start, x1-recurrence, x2-start, x2-recurrence
module _ (start : ℕ → ℕ) (rule : (ℕ → ℕ) → ℕ → ℕ) where
  -- a value stays what it is once it is given
  kept : (k n i : ℕ) → i < n + 31 → up_to start rule (k + n) i ≡ up_to start rule n i
  unfolding up_to
  kept zero n i less = ap (λ (m : ℕ). up_to start rule m i) (zero-add n)
  kept (suc k) n i less =
      ap (λ (m : ℕ). up_to start rule m i) (suc-add k n)
      ∙ rw (ne_eqb i (k + n + 31) (λ e. omega arith)) (kept k n i less)

  begins : (i : ℕ) → i < 31 → up_to start rule i i ≡ start i
  unfolding up_to
  begins i less = ap (λ (m : ℕ). up_to start rule m i) {x = i} {y = i + 0} (omega arith) ∙ kept i 0 i (omega arith)

  goes_on : (n : ℕ) → up_to start rule (n + 31) (n + 31) ≡ rule (up_to start rule n) n
  unfolding up_to
  goes_on n =
      ap (λ (m : ℕ). up_to start rule m (n + 31)) {x = n + 31} {y = 30 + suc n} (omega arith)
      ∙ kept 30 (suc n) (n + 31) (omega arith)
      ∙ rw (eq-eqb (n + 31) (n + 31) refl)

  near : (n j : ℕ) → j < 31 → up_to start rule n (n + j) ≡ up_to start rule (n + j) (n + j)
  near n j less =
      sym (kept j n (n + j) (omega arith)) ∙ ap (λ (m : ℕ). up_to start rule m (n + j)) {x = j + n} {y = n + j} (omega arith)

x1-one : x1 0 ≡ 1
unfolding x1 up_to start1
x1-one = refl

x1-zeros : (i : ℕ) → 0 < i → i < 31 → x1 i ≡ 0
unfolding x1 start1
x1-zeros zero some less = absurd (omega arith)
x1-zeros (suc i) some less = begins start1 rule1 (suc i) less

pub x1-start : (x1 0 ≡ 1) × ((i : ℕ) → 0 < i → i < 31 → x1 i ≡ 0)
x1-start = (x1-one, x1-zeros)

pub x1-recurrence : (n : ℕ) → x1 (n + 31) ≡ (x1 (n + 3) + x1 n) % 2
unfolding x1 rule1
x1-recurrence n = goes_on start1 rule1 n ∙ (λ i. (near start1 rule1 n 3 (omega arith) i + up_to start1 rule1 n n) % 2)

pub x2-start : (ci i : ℕ) → i < 31 → x2 ci i ≡ ci / 2 ^ i % 2
unfolding x2 start2
x2-start ci i less = begins (start2 ci) rule2 i less

pub x2-recurrence : (ci n : ℕ) → x2 ci (n + 31) ≡ (x2 ci (n + 3) + x2 ci (n + 2) + x2 ci (n + 1) + x2 ci n) % 2
unfolding x2 rule2
x2-recurrence ci n =
    let at = near (start2 ci) rule2 n in
    goes_on (start2 ci) rule2 n
    ∙ (λ i. (at 3 (omega arith) i + at 2 (omega arith) i + at 1 (omega arith) i + up_to (start2 ci) rule2 n n) % 2)
