-- For the inner contracts and loops only: the symbols of a channel that fills its places k first, then s, as they stand in a grid, and
-- the two ports' elements at its places by them. No bits and no sequence are needed for that.
use Rattle.std.specs.Prelude.{ℕ, ◌+◌, ◌*◌, ◌/◌, ◌%◌, ◌<◌, ◌≡◌, true, List, length, Option, Some, None}
use Rattle.base.specs.declared.Pair.{Pair}
use Rattle.base.specs.declared.Element.{Element}
use Rattle.base.specs.Bytes.{pair_of}
use Rattle.modulation.specs.Marks.{is_symbol}
use Rattle.precoding.specs.Places.{own_port, placed}
use Rattle.base.specs.Counts.{nth}
use Rattle.places.specs.Places.{places_of}
use Rattle.grid.specs.Elements.{element_in}
use Rattle.compare.specs.Comparing.{Holds, weight_in}
use Rattle.areas.specs.declared.Area.{Area}
use Rattle.areas.specs.Areas.{area_at, area_count, area_index, area_sends, AreaIn, SignalsIn}
use Rattle.areas.specs.Tables.{RowMasks}

-- the area's place of index j
unfoldable pub area_place : Area → ℕ → ℕ
area_place a j = nth (area_at a) (places_of a.cell) j

-- its symbol in a grid, from the port that sends it itself
unfoldable pub area_symbol : Area → List ℕ → ℕ → Pair
area_symbol a g j = pair_of (element_in g (own_port a.cell.ports (j / 2) * places_of a.cell + area_place a j))

-- the elements of the area's places with symbols d
unfoldable pub area_sent : Area → ℕ → (ℕ → Pair) → ℕ → Element
area_sent a unit d e =
    let j = area_index a (e % places_of a.cell) in placed a.cell.ports (j / 2 % 2) unit d j (e / places_of a.cell)

-- each of the area's symbols is a constellation point of q bits, and every port with a term holds what these symbols give
pub record AreaHolds (a : Area) (q unit : ℕ) (g : List ℕ) : Type 0 where
  pub known : (j : ℕ) → j < area_count a → is_symbol q (area_symbol a g j) ≡ true
  pub holds : Holds (area_sends a) (area_sent a unit (area_symbol a g)) g

-- THE ANSWER of the comparison
unfoldable pub AreaCompared : Area → ℕ → ℕ → List ℕ → Option ℕ → Type 0
AreaCompared a q unit g (Some n) = AreaHolds a q unit g × (n ≡ weight_in (area_sends a) g (length g / 3))
AreaCompared a q unit g None = AreaHolds a q unit g → ⊥

-- what it needs: the area's masks, and that with two ports or four the places go in pairs
pub record CompareIn (a : Area) (q unit : ℕ) (masks g : List ℕ) : Type 0 where
  pub area : AreaIn a q g
  pub some : 0 < unit
  pub pairs : (a.cell.ports ≡ 1 → ⊥) → area_count a % 2 ≡ 0
  pub signals : SignalsIn a
  pub bytes : RowMasks a.cell a.frame a.signals a.leaves 14 masks
