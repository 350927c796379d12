-- For the inner contracts and loops only: an area's runs, one after the other, by its tables.
use Rattle.std.specs.Prelude.{ℕ, ◌%◌, ◌≤◌, ◌≡◌, List}
use Rattle.plan.specs.Valid.{CellIn}
use Rattle.layout.specs.Owners.{symbols, carriers}
use Rattle.places.specs.Places.{places_of}
use Rattle.grid.specs.Writing.{Room}
use Rattle.walk.specs.declared.Cursor.{Cursor}
use Rattle.walk.specs.declared.Row.{Row}
use Rattle.walk.specs.declared.Span.{Span}
use Rattle.walk.specs.Tables.{AtIndex}
use Rattle.areas.specs.declared.Area.{Area}
use Rattle.areas.specs.Areas.{SignalsIn}
use Rattle.areas.specs.Tables.{AreaTables}

-- what all runs of an area need
pub record AreaRuns (a : Area) (rows : List Row) (spans : List Span) (grid : List ℕ) : Type 0 where
  pub cell : CellIn a.cell
  pub room : Room a.cell.ports (places_of a.cell) grid
  pub signals : SignalsIn a
  pub tables : AreaTables a rows spans

-- THE CURSOR has come to the area's index j
pub record AreaAt (a : Area) (rows : List Row) (spans : List Span) (c : Cursor) (j : ℕ) : Type 0 where
  pub comes : AtIndex (carriers a.cell) (symbols a.cell) rows spans c j
  pub even : 2 ≤ a.cell.ports → j % 2 ≡ 0
