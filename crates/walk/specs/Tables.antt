-- For the inner contracts and loops only: a channel's rows and spans as the code holds them, the places that they name, and the cursor.
use Rattle.std.specs.Prelude.{ℕ, zero, suc, ◌+◌, ◌-◌, ◌*◌, ◌/◌, ◌%◌, ◌≤◌, ◌<◌, ◌≡◌, Bool, false, cond, ◌&&◌, ◌||◌, List, leb, ltb, get_or}
use Rattle.base.specs.Counts.{cnt}
use Rattle.walk.specs.declared.Cursor.{Cursor}
use Rattle.walk.specs.declared.Row.{Row}
use Rattle.walk.specs.declared.Run.{Run}
use Rattle.walk.specs.declared.Span.{Span}
use Rattle.walk.specs.Runs.{bit_of}

-- row s, and span i: past the end rows without a form and spans without half blocks
abbrev pub row_at : List Row → ℕ → Row
row_at rows s = get_or rows s (record { mask = 0; first = 0; end = 0 })

abbrev pub span_at : List Span → ℕ → Span
span_at spans i = get_or spans i (record { from = 0; to = 0 })

-- a row's form, its first span and the one after its last
abbrev pub row_mask : List Row → ℕ → ℕ
row_mask rows s = (row_at rows s).mask

abbrev pub row_first : List Row → ℕ → ℕ
row_first rows s = (row_at rows s).first

abbrev pub row_end : List Row → ℕ → ℕ
row_end rows s = (row_at rows s).end

-- span i: half blocks from .. to - 1
abbrev pub span_from : List Span → ℕ → ℕ
span_from spans i = (span_at spans i).from

abbrev pub span_to : List Span → ℕ → ℕ
span_to spans i = (span_at spans i).to

-- half block b is in one of n spans from the i-th on
unfoldable pub in_spans : List Span → ℕ → ℕ → ℕ → Bool
in_spans spans i zero b = false
in_spans spans i (suc n) b = (leb (span_from spans (i + n)) b && ltb b (span_to spans (i + n))) || in_spans spans i n b

-- THE CHANNEL'S PLACES: those whose half block is in a span of the row, and that are open in its form
unfoldable pub in_tables : ℕ → List Row → List Span → ℕ → Bool
in_tables W rows spans t =
    in_spans spans (row_first rows (t / W)) (row_end rows (t / W) - row_first rows (t / W)) (t % W / 6)
    && bit_of (row_mask rows (t / W)) (t % W % 6)

-- a row's spans are inside it, in ascending order and apart; there are S rows, and none after them
pub record Spans (W S : ℕ) (rows : List Row) (spans : List Span) : Type 0 where
  pub some : 0 < W
  pub span : (s i : ℕ) → s < S → row_first rows s ≤ i → i < row_end rows s → span_from spans i < span_to spans i
  pub wide : (s i : ℕ) → s < S → row_first rows s ≤ i → i < row_end rows s → 6 * span_to spans i ≤ W
  pub apart : (s i k : ℕ) → s < S → row_first rows s ≤ i → i < k → k < row_end rows s → span_to spans i ≤ span_from spans k
  pub end : row_end rows S ≤ row_first rows S

-- ---- the cursor
abbrev pub cursor_start : List Row → Cursor
cursor_start rows = record { s = 0; i = row_first rows 0 }

abbrev pub cursor_run : ℕ → List Row → List Span → Cursor → Run
cursor_run W rows spans c =
    record {
      first = c.s * W + cond (ltb c.i (row_end rows c.s)) (6 * span_from spans c.i) 0;
      halves = cond (ltb c.i (row_end rows c.s)) (span_to spans c.i - span_from spans c.i) 0;
      mask = row_mask rows c.s;
    }

abbrev pub cursor_next : List Row → Cursor → Cursor
cursor_next rows c =
    cond (ltb (c.i + 1) (row_end rows c.s)) (record { s = c.s; i = c.i + 1 }) (record { s = c.s + 1; i = row_first rows (c.s + 1) })

-- where its next run begins, or its row ends
unfoldable pub cursor_at : ℕ → List Row → List Span → Cursor → ℕ
cursor_at W rows spans c = cond (ltb c.i (row_end rows c.s)) (c.s * W + 6 * span_from spans c.i) (c.s * W + W)

-- what its run needs
pub record CursorIn (W : ℕ) (rows : List Row) (spans : List Span) (c : Cursor) : Type 0 where
  pub row : c.s < 14
  pub wide : W ≤ 1200
  pub span : c.i < row_end rows c.s → span_from spans c.i ≤ span_to spans c.i

-- THE CURSOR is in a row, at the channel's index j
pub record AtIndex (W S : ℕ) (rows : List Row) (spans : List Span) (c : Cursor) (j : ℕ) : Type 0 where
  pub row : c.s ≤ S
  pub from : row_first rows c.s ≤ c.i
  pub index : cnt (in_tables W rows spans) (cursor_at W rows spans c) ≡ j
