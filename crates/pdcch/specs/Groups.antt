-- For the inner contracts and loops only: the groups of the block's quads as a table. R quads, of which quad q has group `block_group c f q` of
-- symbol `block_symbol c f q`.
use Rattle.std.specs.Prelude.{if◌then◌else◌, ℕ, ◌+◌, ◌*◌, ◌%◌, ◌≤◌, ◌<◌, ◌≡◌, cond, List, eqb, length, get_or}
use Rattle.plan.specs.Fields.{control_symbols, group_size, region_groups}
use Rattle.plan.specs.Valid.{CellIn, FrameIn}
use Rattle.plan.specs.declared.Cell.{Cell}
use Rattle.plan.specs.declared.Frame.{Frame}
use Rattle.layout.specs.Region.{block_symbol, block_group}
use Rattle.places.specs.Places.{place_number}
use Rattle.places.specs.Quads.{quad_place}

-- a cell and a frame of an accepted plan
pub record RegionOf (c : Cell) (f : Frame) : Type 0 where
  pub cell : CellIn c
  pub frame : FrameIn f
  pub three : c.duration ≡ 1 → 3 ≤ control_symbols c f

-- the entry of group t of symbol s: twice the number of its first place, and one more for a group of four subcarriers
unfoldable pub entry_of : Cell → ℕ → ℕ → ℕ
entry_of c s t = 2 * place_number c s (quad_place c s t 0) + (if eqb (group_size c s) 4 then 1 else 0)

-- how far the two places of a pair are apart: in a group of four subcarriers, where `four` is 1, they are side by side; in one of six two of
-- each three are taken, those around the one that is left out where C mod 3 is 1
unfoldable pub gap_of : Cell → ℕ → ℕ
gap_of c four = cond (eqb four 1) 1 (cond (eqb (c.identity % 3) 1) 2 1)

-- THE TABLE: entry q is that of quad q's group
pub record GroupTable (c : Cell) (f : Frame) (table : List ℕ) : Type 0 where
  pub size : length table ≡ 800
  pub entry : (q : ℕ) → q < region_groups c f → get_or table q 0 ≡ entry_of c (block_symbol c f q) (block_group c f q)
