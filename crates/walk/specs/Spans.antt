-- For the inner contracts and loops only: tables of rows and spans as they are made, span by span and row by row.
use Rattle.std.specs.Prelude.{ℕ, ◌+◌, ◌-◌, ◌≤◌, ◌<◌, ◌≡◌, Bool, List, length}
use Rattle.walk.specs.declared.Row.{Row}
use Rattle.walk.specs.declared.Span.{Span}
use Rattle.walk.specs.Tables.{row_at, span_at, row_mask, row_first, row_end, span_from, span_to, in_spans}

-- span n is put, if it has half blocks, and r is the number of the next; the spans before it are kept
pub record SpanPut (n from to : ℕ) (before : List Span) (r : ℕ) (after : List Span) : Type 0 where
  pub size : length after ≡ length before
  pub none : to ≤ from → r ≡ n
  pub next : from < to → r ≡ n + 1
  pub first : from < to → span_from after n ≡ from
  pub last : from < to → span_to after n ≡ to
  pub early : (m : ℕ) → m < n → span_at after m ≡ span_at before m

-- row s is put, and the others are kept
pub record RowPut (s mask first end : ℕ) (before after : List Row) : Type 0 where
  pub size : length after ≡ length before
  pub has-mask : row_mask after s ≡ mask
  pub has_first : row_first after s ≡ first
  pub has_end : row_end after s ≡ end
  pub early : (m : ℕ) → m < s → row_at after m ≡ row_at before m
  pub late : (m : ℕ) → s + 1 ≤ m → row_at after m ≡ row_at before m

-- THE SPANS i to e - 1 have the half blocks b below `most` with `has` b, in ascending order and apart
pub record SpanSet (spans : List Span) (i e most : ℕ) (has : ℕ → Bool) : Type 0 where
  pub ordered : i ≤ e
  pub some : (k : ℕ) → i ≤ k → k < e → span_from spans k < span_to spans k
  pub inside : (k : ℕ) → i ≤ k → k < e → span_to spans k ≤ most
  pub apart : (k m : ℕ) → i ≤ k → k < m → m < e → span_to spans k ≤ span_from spans m
  pub same : (b : ℕ) → b < most → in_spans spans i (e - i) b ≡ has b

-- row s has the half blocks b with `has` s b, for each of S rows, and there is none after them
pub record RowSets (rows : List Row) (spans : List Span) (S most : ℕ) (has : ℕ → ℕ → Bool) : Type 0 where
  pub row : (s : ℕ) → s < S → SpanSet spans (row_first rows s) (row_end rows s) most (has s)
  pub end : row_end rows S ≤ row_first rows S
