-- For the inner contracts and loops only: channels that fill their places k first, then s, by half blocks of six subcarriers: PBCH and
-- the users. The laws in proofs/ show that an area's places are the owner's (layout/specs/Owners.antt).
use Rattle.std.specs.Prelude.{ℕ, ◌+◌, ◌-◌, ◌*◌, ◌/◌, ◌%◌, ◌≤◌, ◌≡◌, Bool, true, false, not, ◌&&◌, List, leb, ltb}
use Rattle.base.specs.declared.Element.{Element}
use Rattle.gold.specs.declared.Registers.{Registers}
use Rattle.modulation.specs.Symbols.{Order}
use Rattle.precoding.specs.Places.{placed}
use Rattle.plan.specs.Valid.{CellIn, FrameIn}
use Rattle.plan.specs.declared.Cell.{Cell}
use Rattle.plan.specs.declared.Frame.{Frame}
use Rattle.plan.specs.declared.User.{User}
use Rattle.plan.specs.Fields.{control_symbols}
use Rattle.layout.specs.Owners.{symbols}
use Rattle.layout.specs.Rules.{slot_length}
use Rattle.base.specs.Counts.{cnt}
use Rattle.places.specs.Places.{symbol_at, carrier_at, places_of}
use Rattle.places.specs.Halves.{without, taken_half}
use Rattle.codeword.specs.Streams.{symbols_of}
use Rattle.grid.specs.Writing.{sends, Room}
use Rattle.areas.specs.declared.Area.{Area}

-- the area has the place (s, k): rows `first` to `last` - 1, half blocks `from` to `to` - 1, without the reference signals of the
-- ports below `signals` and, where it leaves them out, without half blocks that are synchronisation's or PBCH's
unfoldable pub area_has : Area → ℕ → ℕ → Bool
area_has a s k =
    leb a.first s && ltb s a.last && leb (6 * a.from) k && ltb k (6 * a.to)
    && without a.cell a.signals s (k % 6)
    && not (a.leaves && taken_half a.cell a.frame s (k / 6))

unfoldable pub area_at : Area → ℕ → Bool
area_at a t = area_has a (symbol_at a.cell t) (carrier_at a.cell t)

-- how many places it has, and which of them t is
unfoldable pub area_count : Area → ℕ
area_count a = cnt (area_at a) (places_of a.cell)

unfoldable pub area_index : Area → ℕ → ℕ
area_index a t = cnt (area_at a) t

-- the elements that it sends: those of its places, on the ports with a term
unfoldable pub area_sends : Area → ℕ → Bool
area_sends a e =
    let t = e % places_of a.cell in area_at a t && sends a.cell.ports (area_index a t / 2 % 2) (e / places_of a.cell)

-- and their values, with symbols of q bits from a slice, scrambled by what the pair r gives
unfoldable pub area_element : Area → ℕ → ℕ → List ℕ → Registers → ℕ → Element
area_element a q unit bits r e =
    let j = area_index a (e % places_of a.cell) in
    placed a.cell.ports (j / 2 % 2) unit (symbols_of q bits r) j (e / places_of a.cell)

-- PBCH's area: "slot 1, l = 0..3, centre 72, skipping CRS positions for four ports"
abbrev pub pbch_area : Cell → Frame → Area
pbch_area c f =
    record {
      cell = c;
      frame = f;
      first = slot_length c;
      last = slot_length c + 4;
      from = c.blocks - 6;
      to = c.blocks + 6;
      signals = 4;
      leaves = false;
    }

-- a user's: "its blocks, symbols s ≥ CFI, not owned above", CFI + 1 at six blocks (document 02, #102)
abbrev pub user_area : Cell → Frame → User → Area
user_area c f u =
    record {
      cell = c;
      frame = f;
      first = control_symbols c f;
      last = symbols c;
      from = 2 * u.first;
      to = 2 * (u.first + u.count);
      signals = c.ports;
      leaves = true;
    }

-- what filling an area needs
pub record AreaIn (a : Area) (q : ℕ) (grid : List ℕ) : Type 0 where
  pub cell : CellIn a.cell
  pub frame : FrameIn a.frame
  pub rows : a.last ≤ symbols a.cell
  pub halves : a.to ≤ 2 * a.cell.blocks
  pub order : Order q
  pub room : Room a.cell.ports (places_of a.cell) grid

-- on two ports or four, an area leaves out the reference signals of two ports or four
abbrev pub SignalsIn : Area → Type 0
SignalsIn a = 2 ≤ a.cell.ports → (2 ≤ a.signals) × (a.signals ≡ 3 → ⊥)
