-- For the inner contracts and loops only: an area's symbols as its runs are read.
use Rattle.std.specs.Prelude.{ℕ, ◌+◌, ◌*◌, ◌/◌, List}
use Rattle.precoding.specs.Places.{own_port}
use Rattle.places.specs.Places.{places_of}
use Rattle.section_bits.specs.declared.SectionBits.{SectionBits}
use Rattle.walk.specs.declared.Row.{Row}
use Rattle.walk.specs.declared.Span.{Span}
use Rattle.walk.specs.declared.Cursor.{Cursor}
use Rattle.areas.specs.declared.Area.{Area}
use Rattle.areas.specs.Areas.{area_count}
use Rattle.areas.specs.Runs.{AreaRuns, AreaAt}
use Rattle.data_compare.specs.Symbols.{area_place, area_symbol}
use Rattle.data_read.specs.Runs.{symbol_bit, Reading, ReadOn}

-- the element of symbol j, on the port that sends the symbol itself
abbrev pub symbol_element : Area → ℕ → ℕ
symbol_element a j = own_port a.cell.ports (j / 2) * places_of a.cell + area_place a j

-- bit i of its symbols as they stand in the grid, still scrambled
unfoldable pub sent_bit : Area → ℕ → List ℕ → ℕ → ℕ
sent_bit a q g i = symbol_bit q (area_symbol a g) i

-- what all runs of an area need
pub record RunsIn (a : Area) (q : ℕ) (rows : List Row) (spans : List Span) (d grid : List ℕ) (st : SectionBits) (part : List ℕ) : Type 0 where
  pub runs : AreaRuns a rows spans grid
  pub reading : Reading q 0 (area_count a) d st part

-- the cursor has come to index j, and the symbols before it are read
pub record Going (a : Area) (q : ℕ) (rows : List Row) (spans : List Span) (d grid : List ℕ) (st : SectionBits) (part : List ℕ) (c : Cursor) (j : ℕ) (st' : SectionBits) (part' : List ℕ) : Type 0 where
  pub cursor : AreaAt a rows spans c j
  pub read : ReadOn q 0 j (symbol_element a) d grid st part st' part'
