-- The laws for callers: of steps, and of the pair that stands at c(k). Assumes nothing.
use mathlib.Core.Path.{◌≡◌, refl, ap, sym, ◌∙◌}
use Prim.Native.Nat.{ℕ, zero, suc, ◌+◌, ◌<◌}
use native.Mathlib.Omega.{arith}
use native.Mathlib.Nat.{add-zero, add-suc}
use Rattle.gold.specs.declared.Registers.{Registers}
use Rattle.gold.specs.Sequence.{c, binary, pair_at}
use Rattle.gold.specs.Steps.{stepped, after, output_of, word_of}
use Rattle.gold.proofs.Binary.{binary-same}
use Rattle.gold.proofs.Pair.{standing, along, gives}

-- ---- steps of any pair
-- no step
pub after_none : (r : Registers) → after r 0 ≡ r
unfolding after
after_none r = refl

-- m steps and n more
pub after-after : (r : Registers) (m n : ℕ) → after (after r m) n ≡ after r (m + n)
unfolding after
after-after r m zero = ap (after r) (sym (add-zero m))
after-after r m (suc n) = ap stepped (after-after r m n) ∙ ap (after r) (sym (add-suc m n))

-- the bit that a pair gives is 0 or 1
pub output-lt : (r : Registers) → output_of r < 2
unfolding output_of
output-lt r = omega arith

-- ---- the pair that stands at c(k)
-- n steps take it to c(k + n)
pub pair-after : (ci k n : ℕ) → after (pair_at ci k) n ≡ pair_at ci (k + n)
unfolding pair_at
pair-after ci k n = along ci (k + 1600) n ∙ ap (standing ci) {x = k + 1600 + n} {y = k + n + 1600} (omega arith)

-- the bit that it gives is c(k)
pub pair-output : (ci k : ℕ) → output_of (pair_at ci k) ≡ c ci k
unfolding pair_at c
pair-output ci k = gives ci (k + 1600)

-- the next n bits are c(k), .., c(k + n - 1)
pub pair-word : (ci k n : ℕ) → word_of (pair_at ci k) n ≡ binary (c ci) k n
unfolding word_of
pair-word ci k n = binary-same (λ (i : ℕ). output_of (after (pair_at ci k) i)) (c ci) 0 k n each
  where
    each : (i : ℕ) → i < n → output_of (after (pair_at ci k) (0 + i)) ≡ c ci (k + i)
    each i less =
        ap output_of (pair-after ci k (0 + i)) ∙ pair-output ci (k + (0 + i)) ∙ ap (c ci) {x = k + (0 + i)} {y = k + i} (omega arith)

-- `advance` and `skip` take it to c(m), m = k + n
pub stands : {s r : Registers} (ci k n m : ℕ) → k + n ≡ m → r ≡ pair_at ci k → s ≡ after r n → s ≡ pair_at ci m
stands ci k n m g e f = f ∙ ap (λ (q : Registers). after q n) e ∙ pair-after ci k n ∙ ap (pair_at ci) g

-- ---- c(n) is 0 or 1
pub c_lt : (ci n : ℕ) → c ci n < 2
unfolding c
c_lt ci n = omega arith
