-- For the inner contracts and loops only: a cursor over the output positions, which goes around the R of them, as the code has it.
-- proofs/Steps.antt: n steps from the position of the shift on it stands at the quad that is sent n-th.
use Rattle.std.specs.Prelude.{if◌then◌else◌, ℕ, ◌+◌, ◌*◌, ◌/◌, ◌%◌, ◌≤◌, ◌<◌, ◌≡◌, Bool, ltb}
use Rattle.base.specs.Counts.{cnt}
use Rattle.interleaver.specs.Matrix.{rows_of, empty_of, column_at, place_at, kept, read_at}
use Rattle.interleaver.specs.declared.Cursor.{Cursor}

-- the cursor at output position i
unfoldable pub cursor_at : ℕ → ℕ → Cursor
cursor_at R i = record { quads = R; at = i; empty = empty_of R; order = read_at R i / rows_of R; place = place_at (rows_of R) (read_at R i) }

-- one position on, from the last to the first
abbrev pub step_of : Cursor → Cursor
step_of c = cursor_at c.quads ((c.at + 1) % c.quads)

-- what the functions over a cursor require: it stands at one of its positions
pub record Stands (c : Cursor) : Type 0 where
  pub whole : c ≡ cursor_at c.quads c.at
  pub inside : c.at < c.quads
  pub few : c.quads ≤ 4096

-- the column that is read j-th has one of the d empty places
unfoldable pub empty_in : ℕ → ℕ → Bool
empty_in d j = ltb (column_at j) d

-- the read after the cursor's, one row down or at the top of the column that is read next, for position i
unfoldable pub next_of : Cursor → ℕ → Cursor
next_of c i =
    if ltb (c.place + 32) (c.quads + c.empty)
    then record { quads = c.quads; at = i; empty = c.empty; order = c.order; place = c.place + 32 }
    else record { quads = c.quads; at = i; empty = c.empty; order = c.order + 1; place = column_at (c.order + 1) }

-- the number of the read at which the cursor stands
abbrev pub read_by : ℕ → Cursor → ℕ
read_by R c = c.order * rows_of R + c.place / 32

-- a cursor that stands at some read of the matrix of R quads
pub record AtRead (R : ℕ) (c : Cursor) : Type 0 where
  pub quads : c.quads ≡ R
  pub empty : c.empty ≡ empty_of R
  pub inside : c.place < 32 * rows_of R
  pub column : c.place % 32 ≡ column_at c.order

-- one that stands at the read of position i, or before it with only empty places between
pub record Seeks (R i : ℕ) (c : Cursor) : Type 0 where
  pub few : R ≤ 4096
  pub inside : i < R
  pub at : c.at ≡ i
  pub read : AtRead R c
  pub before : cnt (kept (rows_of R) (empty_of R)) (read_by R c) ≡ i
