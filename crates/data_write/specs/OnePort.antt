-- For the inner contracts and loops only: places on one port, filled whatever channel they belong to.
use Rattle.std.specs.Prelude.{ℕ, ◌+◌, ◌*◌, ◌≤◌, ◌≡◌, Bool, List, length}
use Rattle.gold.specs.declared.Registers.{Registers}
use Rattle.codeword.specs.declared.ScrambledBits.{ScrambledBits}
use Rattle.codeword.specs.Bits48.{Standing}
use Rattle.codeword.specs.Streams.{symbols_of}
use Rattle.grid.specs.Writing.{Written}
use Rattle.walk.specs.Runs.{PlacesAt}
use Rattle.walk.specs.Parts.{sent_part}
use Rattle.walk.specs.Forms.{StretchesAt, holed_place}
use Rattle.data_write.specs.Sent.{sent_element, TableOf}

-- of n places e 0, e 1, .. the first i are filled, and the bits stand after their symbols
pub record PlacesDone (j n : ℕ) (e : ℕ → ℕ) (i q : ℕ) (t bits : List ℕ) (st : ScrambledBits) (before : List ℕ) (st' : ScrambledBits) (after : List ℕ) : Type 0 where
  pub size : length after ≡ length before
  pub stands : (r : Registers) → Standing q bits r (q * j) st → Standing q bits r (q * (j + i)) st'
  pub done :
      (own : ℕ → Bool) (T unit : ℕ) (r : Registers) → TableOf 1 q unit t → Standing q bits r (q * j) st → PlacesAt own T j n e
      → Written (sent_part own 1 T j i) (sent_element own 1 T unit (symbols_of q bits r)) before after

-- side by side, `each` places in each round, those of i rounds are filled
pub record SingleRounds (j start n each q : ℕ) (t bits : List ℕ) (st : ScrambledBits) (before : List ℕ) (at i : ℕ) (st' : ScrambledBits) (grid : List ℕ) : Type 0 where
  pub rounds : i ≤ n
  pub place : at ≡ 3 * (start + each * i)
  pub done : PlacesDone j (each * n) (◌+◌ start) (each * i) q t bits st before st' grid

-- between holes, k places are filled
pub record Stretches (j first lead each total q : ℕ) (t bits : List ℕ) (st : ScrambledBits) (before : List ℕ) (at left k : ℕ) (st' : ScrambledBits) (grid : List ℕ) : Type 0 where
  pub stretches : StretchesAt first lead each total at left k
  pub done : PlacesDone j total (holed_place first lead each) k q t bits st before st' grid
