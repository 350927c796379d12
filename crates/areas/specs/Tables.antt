-- For the inner contracts and loops only: an area's rows and spans of half blocks, as the walk takes them.
use Rattle.std.specs.Prelude.{ℕ, ◌+◌, ◌*◌, ◌%◌, ◌≤◌, ◌<◌, ◌≡◌, Bool, true, false, not, cond, ◌&&◌, List, leb, ltb, length, get_or}
use Rattle.plan.specs.Valid.{CellIn}
use Rattle.plan.specs.declared.Cell.{Cell}
use Rattle.plan.specs.declared.Frame.{Frame}
use Rattle.layout.specs.Owners.{symbols, carriers}
use Rattle.counts.specs.Users.{taken as taken_row}
use Rattle.places.specs.Places.{places_of}
use Rattle.walk.specs.declared.Row.{Row}
use Rattle.walk.specs.declared.Span.{Span}
use Rattle.walk.specs.Forms.{PairForm, SingleForm}
use Rattle.walk.specs.Tables.{row_mask, row_first, row_end, in_tables, Spans}
use Rattle.walk.specs.Spans.{SpanSet}
use Rattle.areas.specs.declared.Area.{Area}
use Rattle.areas.specs.declared.RowSpans.{RowSpans}
use Rattle.areas.specs.declared.SpanLists.{SpanLists}
use Rattle.areas.specs.Areas.{area_at}
use Rattle.areas.specs.Masks.{Masks, centre_out}

-- a symbol's byte: its mask, and 64 more where the centre is left out
pub record RowMask (c : Cell) (f : Frame) (P : ℕ) (leaves : Bool) (s x : ℕ) : Type 0 where
  pub mask : Masks c P s (x % 64)
  pub out : leb 64 x ≡ (leaves && taken_row c f s)

-- of the first n symbols
pub record RowMasks (c : Cell) (f : Frame) (P : ℕ) (leaves : Bool) (n : ℕ) (masks : List ℕ) : Type 0 where
  pub size : length masks ≡ 14
  pub row : (s : ℕ) → s < n → RowMask c f P leaves s (get_or masks s 0)

-- half block b is one of `from` to `to` - 1 and, where the centre is out, not one of the centre's
unfoldable pub half_in : ℕ → ℕ → ℕ → Bool → ℕ → Bool
half_in N from to out b = leb from b && ltb b to && not (centre_out N out b)

-- the spans of these, with the centre and without it
pub record ListsOf (N from to : ℕ) (spans : List Span) (l : SpanLists) : Type 0 where
  pub all : SpanSet spans l.first l.whole (2 * N) (half_in N from to false)
  pub rest : SpanSet spans l.whole l.end (2 * N) (half_in N from to true)
  pub few : l.end ≤ l.first + 3

-- the smaller of two numbers, and the greater
pub record Smaller (a b r : ℕ) : Type 0 where
  pub first : r ≤ a
  pub second : r ≤ b
  pub one : r < a → r ≡ b

pub record Greater (a b r : ℕ) : Type 0 where
  pub first : a ≤ r
  pub second : b ≤ r
  pub one : a < r → r ≡ b

-- the spans of symbol s, whose byte is x, in an area of the symbols `first` to `last` - 1
abbrev pub row_spans : ℕ → ℕ → SpanLists → ℕ → ℕ → RowSpans
row_spans first last l s x =
    cond (leb first s && ltb s last)
    (cond (leb 64 x) (record { first = l.whole; end = l.end }) (record { first = l.first; end = l.whole }))
    (record { first = 0; end = 0 })

-- the rows of the first n symbols
pub record RowsSet (first last : ℕ) (l : SpanLists) (masks : List ℕ) (n : ℕ) (rows : List Row) : Type 0 where
  pub mask : (s : ℕ) → s < n → row_mask rows s ≡ get_or masks s 0 % 64
  pub from : (s : ℕ) → s < n → row_first rows s ≡ (row_spans first last l s (get_or masks s 0)).first
  pub to : (s : ℕ) → s < n → row_end rows s ≡ (row_spans first last l s (get_or masks s 0)).end
  pub after : row_end rows 14 ≤ row_first rows 14

-- what the tables of an area need
pub record TablesIn (a : Area) (masks : List ℕ) : Type 0 where
  pub cell : CellIn a.cell
  pub last_row : a.last ≤ symbols a.cell
  pub halves : a.to ≤ 2 * a.cell.blocks
  pub bytes : RowMasks a.cell a.frame a.signals a.leaves 14 masks

-- THE TABLES OF AN AREA: the places that they name are the area's
pub record AreaTables (a : Area) (rows : List Row) (spans : List Span) : Type 0 where
  pub sets : Spans (carriers a.cell) (symbols a.cell) rows spans
  pub places : (t : ℕ) → t < places_of a.cell → in_tables (carriers a.cell) rows spans t ≡ area_at a t
  pub single : (s : ℕ) → s < symbols a.cell → SingleForm (row_mask rows s)
  pub pairs : 2 ≤ a.signals → (a.signals ≡ 3 → ⊥) → (s : ℕ) → s < symbols a.cell → PairForm (row_mask rows s)
