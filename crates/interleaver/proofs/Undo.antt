-- THE LAW: the interleaver and its inverse undo each other, for every R. The reads that are kept are listed by the quads, so there are R
-- of them, and the i-th number that passes a test and the count of those below undo each other. Assumes nothing.
use Prim.Native.Nat.{ℕ, suc, ◌+◌, ◌-◌, ◌*◌, ◌/◌, ◌%◌, ◌≤◌, ◌<◌}
use mathlib.Core.Path.{◌≡◌, refl, sym, ap, ◌∙◌}
use mathlib.Core.Bool.{true}
use native.Mathlib.Nat.{mod-lt, div-add-mod', div-lt_iff_lt-mul}
use native.Mathlib.Omega.{arith}
use borrow.Author.Tests.{le-leb, leb-true}
use Rattle.base.proofs.Rows.{at-div, at-mod, row_inside}
use Rattle.base.specs.Counts.{cnt, Listed}
use Rattle.base.proofs.Counts.{Nth, nth-is, nth_of, cnt-lt, listed-count}
use Rattle.base.specs.Ring.{past}
use Rattle.base.proofs.Ring.{past_of, of-past, past-small}
use Rattle.interleaver.specs.Matrix.{rows_of, empty_of, column_at, order_of, place_at, read_of, kept, read_at, quad_at, position_of, sent_at, sent_of, Paired}
use Rattle.interleaver.proofs.Columns.{column-small, order_small, order-column, column-order}

-- ---- a matrix of m rows: reads and places
module _ (m : ℕ) (some : 0 < m) where
  place_in : (t : ℕ) → t < 32 * m → place_at m t < 32 * m
  unfolding place_at
  place_in t h = omega (arith, mod-lt t some, column-small (t / m))

  read-in : (p : ℕ) → p < 32 * m → read_of m p < 32 * m
  unfolding read_of
  read-in p h = omega (arith, row_inside (order_of (p % 32)) 32 m (suc (p / 32)) (order_small (p % 32)) (omega arith))

  read-place : (t : ℕ) → t < 32 * m → read_of m (place_at m t) ≡ t
  unfolding read_of place_at
  read-place t h =
      let c : (32 * (t % m) + column_at (t / m)) % 32 ≡ column_at (t / m) = omega (arith, column-small (t / m)) in
      let r : (32 * (t % m) + column_at (t / m)) / 32 ≡ t % m = omega (arith, column-small (t / m)) in
      let j : t / m < 32 = (div-lt_iff_lt-mul some).1 h in
      rw (c, r, order-column (t / m) j) (div-add-mod' t m)

  place_read : (p : ℕ) → p < 32 * m → place_at m (read_of m p) ≡ p
  unfolding read_of place_at
  place_read p h =
      let l : p / 32 < m = omega arith in
      rw (at-mod (order_of (p % 32)) m (p / 32) l, at-div (order_of (p % 32)) m (p / 32) l, column-order (p % 32) (omega arith)) (omega arith)

  -- d places are empty
  module _ (d : ℕ) (fit : d ≤ 32 * m) where
    kept-place : (t : ℕ) → kept m d t ≡ true → d ≤ place_at m t
    unfolding kept
    kept-place t e = leb-true d (place_at m t) e

    pub place_kept : (t : ℕ) → d ≤ place_at m t → kept m d t ≡ true
    unfolding kept
    place_kept t h = le-leb d (place_at m t) h

    -- the reads that are kept, by the quads
    quads-listed : Listed (kept m d) (32 * m) (32 * m - d) (λ (q : ℕ). read_of m (q + d)) (λ (t : ℕ). place_at m t - d)
    quads-listed =
        record {
          inside = λ q h. read-in (q + d) (omega arith);
          owned = λ q h. place_kept (read_of m (q + d)) (omega (arith, place_read (q + d) (omega arith)));
          back = λ q h. omega (arith, place_read (q + d) (omega arith));
          below = λ t h e. omega (arith, place_in t h, kept-place t e);
          again = λ t h e. ap (read_of m) (back_sum t e) ∙ read-place t h;
        }
      where
        back_sum : (t : ℕ) → kept m d t ≡ true → place_at m t - d + d ≡ place_at m t
        back_sum t e = omega (arith, kept-place t e)

    pub kept-count : cnt (kept m d) (32 * m) ≡ 32 * m - d
    kept-count = listed-count (32 * m - d) (kept m d) (32 * m) (λ (q : ℕ). read_of m (q + d)) (λ (t : ℕ). place_at m t - d) quads-listed

-- ---- R quads
module _ (R : ℕ) (least : 1 ≤ R) where
  pub some-rows : 0 < rows_of R
  some-rows = omega arith

  pub few-empty : empty_of R < 32
  few-empty = omega arith

  pub all-kept : cnt (kept (rows_of R) (empty_of R)) (32 * rows_of R) ≡ R
  all-kept = kept-count (rows_of R) some-rows (empty_of R) (omega arith) ∙ (let e : 32 * rows_of R - empty_of R ≡ R = omega arith in e)

  pub read_is : (i : ℕ) → i < R → Nth (kept (rows_of R) (empty_of R)) (32 * rows_of R) i (read_at R i)
  unfolding read_at
  read_is i h = nth-is (kept (rows_of R) (empty_of R)) (32 * rows_of R) i (omega (arith, all-kept))

  pub read-of : (t : ℕ) → t < 32 * rows_of R → kept (rows_of R) (empty_of R) t ≡ true → read_at R (cnt (kept (rows_of R) (empty_of R)) t) ≡ t
  unfolding read_at
  read-of t h e = nth_of (kept (rows_of R) (empty_of R)) (32 * rows_of R) t e h

  pub quad-place : (i : ℕ) → i < R → quad_at R i + empty_of R ≡ place_at (rows_of R) (read_at R i)
  unfolding quad_at
  quad-place i h = omega (arith, kept-place (rows_of R) some-rows (empty_of R) (omega arith) (read_at R i) (read_is i h).0)

  quad-in : (i : ℕ) → i < R → quad_at R i < R
  quad-in i h = omega (arith, quad-place i h, place_in (rows_of R) some-rows (read_at R i) (read_is i h).1)

  quad-back : (i : ℕ) → i < R → position_of R (quad_at R i) ≡ i
  unfolding position_of
  quad-back i h =
      ap (λ (p : ℕ). cnt (kept (rows_of R) (empty_of R)) (read_of (rows_of R) p)) (quad-place i h)
      ∙ ap (cnt (kept (rows_of R) (empty_of R))) (read-place (rows_of R) some-rows (read_at R i) (read_is i h).1)
      ∙ (read_is i h).2

  module _ (q : ℕ) (h : q < R) where
    quad-read : read_of (rows_of R) (q + empty_of R) < 32 * rows_of R
    quad-read = read-in (rows_of R) some-rows (q + empty_of R) (omega arith)

    quad-kept : kept (rows_of R) (empty_of R) (read_of (rows_of R) (q + empty_of R)) ≡ true
    quad-kept = place_kept (rows_of R) some-rows (empty_of R) (omega arith) (read_of (rows_of R) (q + empty_of R)) (omega (arith, place_read (rows_of R) some-rows (q + empty_of R) (omega arith)))

    position_in : position_of R q < R
    unfolding position_of
    position_in = omega (arith, all-kept, cnt-lt (kept (rows_of R) (empty_of R)) (read_of (rows_of R) (q + empty_of R)) (32 * rows_of R) quad-kept quad-read)

    position-read : read_at R (position_of R q) ≡ read_of (rows_of R) (q + empty_of R)
    unfolding position_of
    position-read = read-of (read_of (rows_of R) (q + empty_of R)) quad-read quad-kept

    position-back : quad_at R (position_of R q) ≡ q
    unfolding quad_at
    position-back = rw (position-read, place_read (rows_of R) some-rows (q + empty_of R) (omega arith)) (omega arith)

  undone-some : Paired R (quad_at R) (position_of R)
  undone-some = record { inside = quad-in; back = quad-back; below = position_in; again = position-back }

-- THE LAW
pub undone : (R : ℕ) → Paired R (quad_at R) (position_of R)
undone R =
    record {
      inside = λ i h. (undone-some R (omega arith)).inside i h;
      back = λ i h. (undone-some R (omega arith)).back i h;
      below = λ q h. (undone-some R (omega arith)).below q h;
      again = λ q h. (undone-some R (omega arith)).again q h;
    }

-- and with the shift: each quad is sent just once
pub sent-once : (R C : ℕ) → Paired R (sent_at R C) (sent_of R C)
unfolding sent_at sent_of
sent-once R C =
    record {
      inside = λ n h. (undone R).inside _ (mod-lt _ (omega arith));
      back = λ n h. ap (past C R) ((undone R).back _ (mod-lt _ (omega arith))) ∙ past_of C R (omega arith) n _ h refl;
      below = λ q h. past-small C R (omega arith) (position_of R q);
      again = λ q h. ap (quad_at R) (sym (of-past C R (omega arith) (position_of R q) ((undone R).below q h))) ∙ (undone R).again q h;
    }
