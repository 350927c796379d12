-- For the inner contracts and loops only: the symbols of the control channel's block as they stand in a grid, and the two ports' elements at
-- the places of given control elements by them. No bits and no sequence are needed for that.
use Rattle.std.specs.Prelude.{ℕ, ◌+◌, ◌*◌, ◌/◌, ◌<◌, ◌≡◌, true, List, length, Option, Some, None}
use Rattle.base.specs.declared.Pair.{Pair}
use Rattle.base.specs.Bytes.{pair_of}
use Rattle.modulation.specs.Marks.{is_symbol}
use Rattle.precoding.specs.Places.{own_port}
use Rattle.plan.specs.Fields.{control_elements}
use Rattle.plan.specs.declared.Cell.{Cell}
use Rattle.plan.specs.declared.Frame.{Frame}
use Rattle.places.specs.Places.{places_of}
use Rattle.grid.specs.Elements.{element_in}
use Rattle.grid.specs.Writing.{Room}
use Rattle.compare.specs.Comparing.{Holds, weight_in}
use Rattle.pdcch.specs.Groups.{RegionOf, GroupTable}
use Rattle.pdcch.specs.Block.{is_given, FromIn, block_place, block_sends, block_with}

-- symbol j of the block in a grid, from the port that sends it itself
unfoldable pub block_symbol_in : Cell → Frame → List ℕ → ℕ → Pair
block_symbol_in c f g j = pair_of (element_in g (own_port c.ports (j / 2) * places_of c + block_place c f j))

-- each symbol of a given element is one of two bits, and every port with a term holds what these symbols give
pub record BlockHolds (c : Cell) (f : Frame) (from g : List ℕ) : Type 0 where
  pub known : (j : ℕ) → j < 36 * control_elements c f → is_given from (j / 36) ≡ true → is_symbol 2 (block_symbol_in c f g j) ≡ true
  pub holds : Holds (block_sends c f from) (block_with c f (block_symbol_in c f g)) g

-- THE ANSWER of the comparison
unfoldable pub BlockCompared : Cell → Frame → List ℕ → List ℕ → Option ℕ → Type 0
BlockCompared c f from g (Some n) = BlockHolds c f from g × (n ≡ weight_in (block_sends c f from) g (length g / 3))
BlockCompared c f from g None = BlockHolds c f from g → ⊥

-- what it needs
pub record CompareIn (c : Cell) (f : Frame) (elements : ℕ) (groups from g : List ℕ) : Type 0 where
  pub region : RegionOf c f
  pub count : elements ≡ control_elements c f
  pub table : GroupTable c f groups
  pub bytes : ℕ
  pub given : FromIn c f from bytes
  pub room : Room c.ports (places_of c) g
