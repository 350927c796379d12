-- For the inner contracts and loops only: what filling an area needs, and what is done.
use Rattle.std.specs.Prelude.{ℕ, ◌*◌, ◌≡◌, List, length}
use Rattle.gold.specs.declared.Registers.{Registers}
use Rattle.gold.specs.Steps.{after as after_bits}
use Rattle.codeword.specs.declared.ScrambledBits.{ScrambledBits}
use Rattle.codeword.specs.Bits48.{Standing}
use Rattle.codeword.specs.Streams.{symbols_of}
use Rattle.places.specs.Places.{places_of}
use Rattle.grid.specs.Writing.{Written}
use Rattle.walk.specs.declared.Span.{Span}
use Rattle.walk.specs.declared.Row.{Row}
use Rattle.walk.specs.declared.Cursor.{Cursor}
use Rattle.walk.specs.Parts.{sent_part}
use Rattle.areas.specs.declared.Area.{Area}
use Rattle.areas.specs.Areas.{area_at, area_count, area_sends, area_element, AreaIn}
pub use Rattle.areas.specs.Areas.{SignalsIn}
use Rattle.areas.specs.Tables.{RowMasks}
use Rattle.areas.specs.Runs.{AreaRuns, AreaAt}
use Rattle.data_write.specs.Sent.{sent_element, bits_at_once, TableOf, Sending}

abbrev pub ports_of : Area → ℕ
ports_of a = a.cell.ports

abbrev pub group_in : Area → ℕ → ℕ
group_in a q = bits_at_once (ports_of a) q

-- what all runs of an area need
pub record RunsIn (a : Area) (q : ℕ) (rows : List Row) (spans : List Span) (t bits : List ℕ) (st : ScrambledBits) (grid : List ℕ) : Type 0 where
  pub runs : AreaRuns a rows spans grid
  pub sending : Sending (group_in a q) q 0 t bits st

-- the cursor has come to index j, the places before it are filled, and the bits stand after their symbols
pub record Going (a : Area) (q : ℕ) (rows : List Row) (spans : List Span) (t bits : List ℕ) (st : ScrambledBits) (before : List ℕ)
    (c : Cursor) (j : ℕ) (st' : ScrambledBits) (grid : List ℕ) : Type 0 where
  pub cursor : AreaAt a rows spans c j
  pub size : length grid ≡ length before
  pub stands : (r : Registers) → Standing (group_in a q) bits r (q * 0) st → Standing (group_in a q) bits r (q * j) st'
  pub written :
      (unit : ℕ) (r : Registers) → TableOf (ports_of a) q unit t → Standing (group_in a q) bits r (q * 0) st
      → Written (sent_part (area_at a) (ports_of a) (places_of a.cell) 0 j)
      (sent_element (area_at a) (ports_of a) (places_of a.cell) unit (symbols_of q bits r)) before grid

-- what is done with all of them
pub record RunsDone (a : Area) (q : ℕ) (rows : List Row) (spans : List Span) (t bits : List ℕ) (st : ScrambledBits) (before : List ℕ) (st' : ScrambledBits) (after : List ℕ) : Type 0 where
  pub size : length after ≡ length before
  pub stands : (r : Registers) → Standing (group_in a q) bits r (q * 0) st → Standing (group_in a q) bits r (q * area_count a) st'
  pub written :
      (unit : ℕ) (r : Registers) → TableOf (ports_of a) q unit t → Standing (group_in a q) bits r (q * 0) st
      → Written (area_sends a) (area_element a q unit bits r) before after

-- what filling an area needs: for some unit, the order's table and the area's masks
pub record FillIn (a : Area) (q : ℕ) (t masks grid : List ℕ) : Type 0 where
  pub unit : ℕ
  pub area : AreaIn a q grid
  pub signals : SignalsIn a
  pub table : TableOf (ports_of a) q unit t
  pub bytes : RowMasks a.cell a.frame a.signals a.leaves 14 masks

-- and what is done, in the unit of the table
pub record AreaFilled (a : Area) (q : ℕ) (t bits : List ℕ) (r : Registers) (before : List ℕ) (x : Registers) (after : List ℕ) : Type 0 where
  pub written : (unit : ℕ) → TableOf (ports_of a) q unit t → Written (area_sends a) (area_element a q unit bits r) before after
  pub pair : x ≡ after_bits r (q * area_count a)
