-- For the inner contracts and loops only: what the functions over PCFICH, a PHICH unit and a plan's HIs require.
use Rattle.std.specs.Prelude.{ℕ, ◌≤◌, ◌<◌, List, get_or, drop}
use Rattle.base.specs.declared.Pair.{Pair}
use Rattle.base.specs.Pairs.{nil, Small}
use Rattle.phich.specs.His.{hi_number}
use Rattle.phich.specs.Loops.{Levels}
use Rattle.phich.specs.Spreading.{spread_length}
use Rattle.phich.specs.Units.{mapping_unit, Within}
use Rattle.plan.specs.Fields.{mapping_units}
use Rattle.plan.specs.CommandLists.{his_from}
use Rattle.plan.specs.Valid.{CellIn}
use Rattle.plan.specs.declared.Cell.{Cell}
use Rattle.plan.specs.declared.CommandList.{CommandList}
use Rattle.places.specs.Places.{places_of}
use Rattle.grid.specs.Writing.{Room}

-- "CFI u8 (1–3)", and a grid of the cell
pub record PcfichIn (c : Cell) (cfi : ℕ) (grid : List ℕ) : Type 0 where
  pub cell : CellIn c
  pub some : 1 ≤ cfi
  pub most : cfi ≤ 3
  pub room : Room c.ports (places_of c) grid

-- a unit of the cell, the bytes of its quad's sums, at most eight either way, and a grid of the cell
pub record PhichIn (c : Cell) (m : ℕ) (part grid : List ℕ) : Type 0 where
  pub cell : CellIn c
  pub unit : m < mapping_units c
  pub room : Room c.ports (places_of c) grid
  pub levels : Levels 8 part

-- a unit of the cell with its twelve sums, at most eight either way
pub record UnitIn (c : Cell) (m : ℕ) (sums : List Pair) : Type 0 where
  pub cell : CellIn c
  pub unit : m < mapping_units c
  pub small : (i : ℕ) → i < 12 → Small 8 (get_or sums i nil)

-- HIs of the cell, each with a sequence and a unit of it
pub record CellHis (c : Cell) (his : CommandList) (plan : List ℕ) : Type 0 where
  pub cell : CellIn c
  pub known : Within (spread_length c) (his_from (drop his.at plan) his.count)
  pub units : (n : ℕ) → n < his.count → mapping_unit (spread_length c) (hi_number (his_from (drop his.at plan) his.count) n) < mapping_units c
