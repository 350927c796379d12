-- For the inner contracts and loops only: the quads of the block's control elements, and what writing them needs. The cell and the frame are
-- those of an accepted plan.
use Rattle.std.specs.Prelude.{ℕ, ◌+◌, ◌-◌, ◌*◌, ◌/◌, ◌%◌, ◌≤◌, ◌<◌, ◌≡◌, Bool, ◌&&◌, List, leb, ltb, length, take, drop}
use Rattle.base.specs.declared.Element.{Element}
use Rattle.gold.specs.declared.Registers.{Registers}
use Rattle.codeword.specs.Streams.{symbols_of}
use Rattle.plan.specs.Fields.{control_elements}
use Rattle.plan.specs.declared.Cell.{Cell}
use Rattle.plan.specs.declared.Frame.{Frame}
use Rattle.places.specs.Places.{symbol_at, carrier_at, places_of}
use Rattle.grid.specs.Writing.{Written, sends, Room}
use Rattle.data_write.specs.Sent.{TableOf}
use Rattle.pdcch.specs.Block.{FromIn, block_has, block_index, block_with}
use Rattle.pdcch.specs.Groups.{RegionOf, GroupTable}

-- the elements of the block's n quads from quad q on, on the ports with a term
unfoldable pub quads_send : Cell → Frame → ℕ → ℕ → ℕ → Bool
quads_send c f q n e =
    let t = e % places_of c in
    let j = block_index c f t in
    (block_has c f (symbol_at c t) (carrier_at c t) && sends c.ports (j / 2 % 2) (e / places_of c)) && (leb q (j / 4) && ltb (j / 4) (q + n))

-- and the values of control element e's, from its own bits and the pair that scrambles them
unfoldable pub element_sent : Cell → Frame → ℕ → List ℕ → Registers → ℕ → Element
element_sent c f e bits r = block_with c f (λ (j : ℕ). symbols_of 2 bits r (j - 36 * e))

-- the nine bytes with a number, counted from 1
abbrev pub nine_bytes : List ℕ → ℕ → List ℕ
nine_bytes bits n = take 9 (drop (9 * n - 9) bits)

-- what one control element needs, of some frame
pub record ElementIn (c : Cell) (groups : List ℕ) (e : ℕ) (t grid : List ℕ) : Type 0 where
  pub frame : Frame
  pub region : RegionOf c frame
  pub table : GroupTable c frame groups
  pub inside : e < control_elements c frame
  pub few : e < 88
  pub symbols : TableOf c.ports 2 2 t
  pub room : Room c.ports (places_of c) grid

-- it is written, in each frame with these groups
pub record ElementPut (c : Cell) (groups : List ℕ) (e : ℕ) (bits : List ℕ) (r : Registers) (before after : List ℕ) : Type 0 where
  pub size : length after ≡ length before
  pub written :
      (f : Frame) → RegionOf c f → GroupTable c f groups → e < control_elements c f → Written (quads_send c f (9 * e) 9) (element_sent c f e bits r) before after

-- it is written where it is given, else nothing is
pub record GivenPut (c : Cell) (groups : List ℕ) (e given : ℕ) (bits : List ℕ) (r : Registers) (before after : List ℕ) : Type 0 where
  pub none : given ≡ 0 → after ≡ before
  pub some : 1 ≤ given → ElementPut c groups e (nine_bytes bits given) r before after

-- what all of them need
pub record FillIn (c : Cell) (f : Frame) (elements : ℕ) (groups from t bits grid : List ℕ) : Type 0 where
  pub region : RegionOf c f
  pub count : elements ≡ control_elements c f
  pub table : GroupTable c f groups
  pub given : FromIn c f from (length bits)
  pub symbols : TableOf c.ports 2 2 t
  pub room : Room c.ports (places_of c) grid
