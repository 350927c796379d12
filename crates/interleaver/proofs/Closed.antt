-- The position of a read in closed form: reads before it, less one for each column up to it that has an empty place. Assumes nothing.
use Prim.Native.Nat.{ℕ, zero, suc, ◌+◌, ◌-◌, ◌*◌, ◌≤◌, ◌<◌}
use mathlib.Core.Path.{◌≡◌, refl, ap, ◌∙◌}
use mathlib.Core.Bool.{true, false}
use native.Mathlib.Nat.{zero-mul, suc-mul}
use native.Mathlib.Omega.{arith}
use borrow.Author.Tests.{lt-leb, ltb-true, ltb-false}
use Rattle.base.proofs.Tests.{by-test}
use Rattle.base.proofs.Rows.{at-div, at-mod}
use Rattle.base.specs.Counts.{cnt}
use Rattle.base.proofs.Counts.{cnt-none, cnt-own, cnt-not, cnt-all}
use Rattle.interleaver.specs.Matrix.{column_at, place_at, kept}
use Rattle.interleaver.specs.Cursor.{empty_in}
use Rattle.interleaver.proofs.Undo.{place_kept, kept-count}

-- the place in row r of the column that is read j-th
pub place-row : (m j r : ℕ) → r < m → place_at m (j * m + r) ≡ 32 * r + column_at j
unfolding place_at
place-row m j r h = rw (at-mod j m r h, at-div j m r h) refl

module _ (m d : ℕ) (some : 0 < m) (few : d < 32) where
  fit : d ≤ 32 * m
  fit = omega arith

  kept_row : (j r : ℕ) → r < m → d ≤ 32 * r + column_at j → kept m d (j * m + r) ≡ true
  kept_row j r h l = place_kept m some d fit (j * m + r) (omega (arith, place-row m j r h))

  dropped-row : (j r : ℕ) → r < m → 32 * r + column_at j < d → kept m d (j * m + r) ≡ false
  unfolding kept
  dropped-row j r h l = lt-leb d (place_at m (j * m + r)) (omega (arith, place-row m j r h))

  has-empty : (j : ℕ) → empty_in d j ≡ true → column_at j < d
  unfolding empty_in
  has-empty j e = ltb-true (column_at j) d e

  pub none-empty : (j : ℕ) → empty_in d j ≡ false → d ≤ column_at j
  unfolding empty_in
  none-empty j e = ltb-false (column_at j) d e

  -- the first read of the column that is read j-th
  first : (j : ℕ) → cnt (kept m d) (suc (j * m)) + cnt (empty_in d) (suc j) ≡ cnt (kept m d) (j * m) + suc (cnt (empty_in d) j)
  first j =
      by-test (empty_in d j)
      (λ e. omega (arith, cnt-own (empty_in d) j e, cnt-not (kept m d) (j * m) (ap (kept m d) zeroth ∙ dropped-row j 0 some (omega (arith, has-empty j e)))))
      (λ e. omega (arith, cnt-not (empty_in d) j e, cnt-own (kept m d) (j * m) (ap (kept m d) zeroth ∙ kept_row j 0 some (omega (arith, none-empty j e)))))
    where
      zeroth : j * m ≡ j * m + 0
      zeroth = omega arith

  -- and the others, which are all kept
  column : (j r : ℕ) → suc r ≤ m → cnt (kept m d) (suc (j * m) + r) + cnt (empty_in d) (suc j) ≡ cnt (kept m d) (j * m) + cnt (empty_in d) j + suc r
  column j r h = omega (arith, first j, cnt-all (kept m d) (suc (j * m)) r later)
    where
      later : (t : ℕ) → suc (j * m) ≤ t → t < suc (j * m) + r → kept m d t ≡ true
      later t a b =
          let e : t ≡ j * m + (t - j * m) = omega arith in
          ap (kept m d) e ∙ kept_row j (t - j * m) (omega arith) (omega arith)

  -- the reads before that column
  starts : (j : ℕ) → cnt (kept m d) (j * m) + cnt (empty_in d) j ≡ j * m
  starts zero = omega (arith, zero-mul m, ap (cnt (kept m d)) (zero-mul m), cnt-none (kept m d), cnt-none (empty_in d))
  starts (suc j) =
      let e : suc j * m ≡ suc (j * m) + (m - 1) = omega (arith, suc-mul j m) in
      omega (arith, e, ap (cnt (kept m d)) e, column j (m - 1) (omega arith), starts j)

  -- THE CLOSED FORM, of the read of row r
  pub closed : (j r : ℕ) → r < m → d ≤ 32 * r + column_at j → cnt (kept m d) (j * m + r) + cnt (empty_in d) (suc j) ≡ j * m + r
  closed j zero h l =
      let s = starts j in
      let z : j * m + 0 ≡ j * m = omega arith in
      by-test (empty_in d j)
      (λ e. absurd (omega (arith, has-empty j e)))
      (λ e. omega (arith, cnt-not (empty_in d) j e, ap (cnt (kept m d)) z))
  closed j (suc r) h l =
      let e : j * m + suc r ≡ suc (j * m) + r = omega arith in
      omega (arith, e, ap (cnt (kept m d)) e, column j r (omega arith), starts j)

  -- the columns have all the empty places
  pub all-empty : cnt (empty_in d) 32 ≡ d
  all-empty = omega (arith, starts 32, kept-count m some d fit)
