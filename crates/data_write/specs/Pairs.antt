-- For the inner contracts and loops only: pairs and runs of a channel's places, filled whatever channel they belong to.
use Rattle.std.specs.Prelude.{ℕ, ◌+◌, ◌*◌, ◌/◌, ◌^◌, ◌≤◌, ◌<◌, ◌≡◌, Bool, List, length}
use Rattle.gold.specs.declared.Registers.{Registers}
use Rattle.codeword.specs.declared.ScrambledBits.{ScrambledBits}
use Rattle.codeword.specs.Bits48.{Standing}
use Rattle.element_pairs.specs.Numbers.{PairPut}
use Rattle.codeword.specs.Streams.{symbols_of}
use Rattle.grid.specs.Writing.{Written}
use Rattle.walk.specs.declared.PortOffsets.{PortOffsets}
use Rattle.walk.specs.declared.Run.{Run}
use Rattle.walk.specs.Runs.{run_count, Laid, PairsAt}
use Rattle.walk.specs.Parts.{sent_part}
use Rattle.walk.specs.Addresses.{OffsetsAt, PairsIn, RoundAt}
use Rattle.data_write.specs.declared.FirstRound.{FirstRound}
use Rattle.data_write.specs.Sent.{sent_element, TableOf, Sending, FromTable}

-- what two pairs of places need, `gap` from a pair's first place to its second, and what is done with them, with the four symbols of a word
pub record RoundIn (gap q at next across : ℕ) (grid : List ℕ) : Type 0 where
  pub few : q ≤ 8
  pub first : at + across + (3 * gap + 2) < length grid
  pub second : next + across + (3 * gap + 2) < length grid

pub record RoundDone (gap word q : ℕ) (t : List ℕ) (at next across : ℕ) (before after : List ℕ) : Type 0 where
  pub own : ℕ
  pub other : ℕ
  pub own-next : ℕ
  pub other-next : ℕ
  pub first : FromTable t (word / 2 ^ q / 2 ^ q / 2 ^ q) (word / 2 ^ q / 2 ^ q) own other
  pub second : FromTable t (word / 2 ^ q) word own-next other-next
  pub middle : List ℕ
  pub put : PairPut gap at across own other before middle
  pub put_next : PairPut gap next across own-next other-next middle after

-- where rounds of pairs begin, by the offsets of their ports
pub record FirstAt (P T j start step : ℕ) (x : FirstRound) : Type 0 where
  pub offsets : PortOffsets
  pub ports : OffsetsAt P T j offsets
  pub at : x.at ≡ 3 * (offsets.own + start)
  pub next : x.next ≡ 3 * (offsets.next + start + step)
  pub across : x.across ≡ 3 * offsets.across

-- of m pairs i are filled, and the bits stand after their symbols
pub record PairsDone (P T gap j start step m i q : ℕ) (t bits : List ℕ) (st : ScrambledBits) (before : List ℕ) (st' : ScrambledBits) (after : List ℕ) : Type 0 where
  pub size : length after ≡ length before
  pub stands : (r : Registers) → Standing (2 * q) bits r (q * j) st → Standing (2 * q) bits r (q * (j + 2 * i)) st'
  pub done :
      (own : ℕ → Bool) (unit : ℕ) (r : Registers) → TableOf P q unit t → Standing (2 * q) bits r (q * j) st → PairsAt own T j start step gap m
      → Written (sent_part own P T j (2 * i)) (sent_element own P T unit (symbols_of q bits r)) before after

-- two pairs in each round, those of i rounds are filled
pub record Rounds (P T gap j start step n q : ℕ) (t bits : List ℕ) (st : ScrambledBits) (before : List ℕ) (f : FirstRound) (at next i : ℕ) (st' : ScrambledBits) (grid : List ℕ) : Type 0 where
  pub pairs : PairsIn P T gap j start step (2 * n) before
  pub sending : Sending (2 * q) q j t bits st
  pub first : FirstAt P T j start step f
  pub round : RoundAt P T j start step n at next i
  pub done : PairsDone P T gap j start step (2 * n) (2 * i) q t bits st before st' grid

-- what is done with a run, whatever channel it belongs to; bits are taken in groups of u
pub record RunFilled (u P T j : ℕ) (run : Run) (q : ℕ) (t bits : List ℕ) (st : ScrambledBits) (before : List ℕ) (next : ℕ) (st' : ScrambledBits) (after : List ℕ) : Type 0 where
  pub next-index : next ≡ j + run_count run
  pub size : length after ≡ length before
  pub stands : (r : Registers) → Standing u bits r (q * j) st → Standing u bits r (q * (j + run_count run)) st'
  pub filled :
      (own : ℕ → Bool) (unit : ℕ) (r : Registers) → TableOf P q unit t → Standing u bits r (q * j) st → Laid own T j run
      → Written (sent_part own P T j (run_count run)) (sent_element own P T unit (symbols_of q bits r)) before after
