-- For laws and inner contracts, and ahead of the promises of document 02, #101: TS 36.212 5.1.4.2.1, the sub-block interleaver, on R quads for
-- every R. "rows of 32, empty places first and dropped at the end; the j-th column read is the one numbered by the five bits of (j+16) mod
-- 32, reversed".
-- Places of the matrix are numbered row by row, reads of it column by column: read t is row t mod rows of the column read (t / rows)-th.
use Rattle.std.specs.Prelude.{ℕ, ◌+◌, ◌-◌, ◌*◌, ◌/◌, ◌%◌, ◌<◌, ◌≡◌, Bool, leb}
use Rattle.base.specs.Counts.{cnt, nth}
use Rattle.base.specs.Ring.{past}

-- "rows of 32", as many as R quads need; "empty places first": how many
abbrev pub rows_of : ℕ → ℕ
rows_of R = (R + 31) / 32

abbrev pub empty_of : ℕ → ℕ
empty_of R = 32 * rows_of R - R

-- five bits, reversed
unfoldable pub reversed : ℕ → ℕ
reversed x = x % 2 * 16 + x / 2 % 2 * 8 + x / 4 % 2 * 4 + x / 8 % 2 * 2 + x / 16 % 2

-- the column that is read j-th, and when column c is read
unfoldable pub column_at : ℕ → ℕ
column_at j = reversed ((j + 16) % 32)

unfoldable pub order_of : ℕ → ℕ
order_of c = (reversed c + 16) % 32

-- the place that read t finds, in a matrix of m rows, and the read that finds place p
unfoldable pub place_at : ℕ → ℕ → ℕ
place_at m t = 32 * (t % m) + column_at (t / m)

unfoldable pub read_of : ℕ → ℕ → ℕ
read_of m p = order_of (p % 32) * m + p / 32

-- "dropped at the end": whether read t finds a place after the first d, which are empty
unfoldable pub kept : ℕ → ℕ → ℕ → Bool
kept m d t = leb d (place_at m t)

-- the read of output position i: the i-th that is kept
unfoldable pub read_at : ℕ → ℕ → ℕ
read_at R i = nth (kept (rows_of R) (empty_of R)) (32 * rows_of R) i

-- THE INTERLEAVER: the quad at output position i; AND ITS INVERSE: the position of quad q
unfoldable pub quad_at : ℕ → ℕ → ℕ
quad_at R i = place_at (rows_of R) (read_at R i) - empty_of R

unfoldable pub position_of : ℕ → ℕ → ℕ
position_of R q = cnt (kept (rows_of R) (empty_of R)) (read_of (rows_of R) (q + empty_of R))

-- 36.211 6.8.5: "w̄^(p)(i) = w^(p)((i + N_ID^cell) mod M_quad)". The quad that is sent n-th of R in cell C, and when quad q is sent
unfoldable pub sent_at : ℕ → ℕ → ℕ → ℕ
sent_at R C n = quad_at R ((C + n) % R)

unfoldable pub sent_of : ℕ → ℕ → ℕ → ℕ
sent_of R C q = past C R (position_of R q)

-- two maps of the numbers below R that undo each other. proofs/Undo.antt: so do quad_at R and position_of R, and sent_at R C and sent_of R C, for
-- every R and C
pub record Paired (R : ℕ) (f g : ℕ → ℕ) : Type 0 where
  pub inside : (i : ℕ) → i < R → f i < R
  pub back : (i : ℕ) → i < R → g (f i) ≡ i
  pub below : (q : ℕ) → q < R → g q < R
  pub again : (q : ℕ) → q < R → f (g q) ≡ q
