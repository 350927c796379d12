-- The loop over a unit's twelve places: those below i have their sums. Assumes nothing.
use Rattle.std.proofs.Common.{◌≡◌, ℕ, ◌+◌, ◌%◌, ◌<◌, ◌≤◌, List, length, get_or, set, ap, ◌∙◌, ap₂, not-suc-le-zero, arith, length-set}
use Rattle.base.specs.declared.Pair.{Pair}
use Rattle.base.specs.Pairs.{nil, flipped, Small}
use Rattle.base.proofs.Tables.{set_more, filled}
use Rattle.phich.specs.Loops.{chip_of, levels_at, Levels, scrambled_sums}

pub record Filled (l : ℕ) (c : ℕ → ℕ) (part : List ℕ) (sums : List Pair) (i : ℕ) : Type 0 where
  pub done : i ≤ 12
  pub full : length sums ≡ 12
  pub below : (j : ℕ) → j < i → get_or sums j nil ≡ flipped (c (chip_of l j)) (levels_at part (j % 4))

-- a pair of levels can be flipped
pub flips : {part : List ℕ} {d : Pair} (i : ℕ) → Levels 127 part → d ≡ levels_at part (i % 4) → Small 127 d
flips i ok e = rw e (ok.small (i % 4) (omega arith))

module _ {l : ℕ} {c : ℕ → ℕ} {part : List ℕ} where
  pub start : {sums : List Pair} → length sums ≡ 12 → Filled l c part sums 0
  start e = record { done = omega arith; full = e; below = λ j r. absurd (not-suc-le-zero r) }

  pub next :
      {sums : List Pair} {i e b : ℕ} {d x : Pair} → Filled l c part sums i → i < 12 → e ≡ chip_of l i → b ≡ c e → d ≡ levels_at part (i % 4) → x ≡ flipped b d
      → Filled l c part (set sums i x) (i + 1)
  next {sums = sums} {i = i} {x = x} t r ee eb ed ex =
      record {
        done = omega arith;
        full = length-set sums i x ∙ t.full;
        below = set_more nil (λ j. flipped (c (chip_of l j)) (levels_at part (j % 4))) sums i x (omega (arith, t.full)) (ex ∙ ap₂ flipped (eb ∙ ap c ee) ed) t.below;
      }

  pub finish : {sums : List Pair} {i : ℕ} → Filled l c part sums i → 12 ≤ i → sums ≡ scrambled_sums l c part
  unfolding scrambled_sums
  finish {sums = sums} t r = filled nil (λ j. flipped (c (chip_of l j)) (levels_at part (j % 4))) 12 sums t.full (λ j k. t.below j (omega arith))
