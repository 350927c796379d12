-- For the inner contracts and loops only: places of a channel, whatever channel it is, whose symbols' bits go into a section one after the other.
use Rattle.std.specs.Prelude.{ℕ, ◌+◌, ◌-◌, ◌*◌, ◌/◌, ◌%◌, ◌^◌, ◌≤◌, ◌<◌, ◌≡◌, List, length}
use Rattle.base.specs.declared.Pair.{Pair}
use Rattle.base.specs.Digits.{dig}
use Rattle.gold.specs.declared.Registers.{Registers}
use Rattle.gold.specs.Sequence.{binary}
use Rattle.modulation.specs.Symbols.{Order}
use Rattle.modulation.specs.Demapping.{demap_of}
use Rattle.recovery.specs.Recovery.{word_of as demapped}
use Rattle.precoding.specs.Places.{own_port}
use Rattle.constellation.specs.Axis.{Axis, word_of}
use Rattle.grid.specs.Elements.{element_in}
use Rattle.element_pairs.specs.Numbers.{element_from, upper}
use Rattle.section_bits.specs.declared.SectionBits.{SectionBits}
use Rattle.section_bits.specs.Gathering.{Bits, bits_in, State, Gathered}
use Rattle.walk.specs.declared.Run.{Run}
use Rattle.walk.specs.Runs.{run_count, place_at}

-- ---- bits
-- the order's table
pub record Table (q : ℕ) (d : List ℕ) : Type 0 where
  pub order : Order q
  pub axis : Axis q d

-- the bits of two elements that are one number
abbrev pub both_of : ℕ → List ℕ → ℕ → ℕ
both_of q d v = word_of d v * 2 ^ q + word_of d (upper v)

-- bit i of symbols of q bits each
abbrev pub symbol_bit : ℕ → (ℕ → Pair) → ℕ → ℕ
symbol_bit q symbol i = dig (demapped (demap_of q (symbol (i / q)))) (q - 1 - i % q)

-- by the table, the symbol k of the bits b is that of element e
pub record Stands (q : ℕ) (d g : List ℕ) (b : ℕ → ℕ) (k e : ℕ) : Type 0 where
  pub word : (v : ℕ) → element_in g e ≡ element_from v → word_of d v ≡ binary b (q * k) q

-- ---- n symbols, from index j on
-- what reading them needs: the bits of those before are taken in, and the section has room for theirs
pub record Reading (q j n : ℕ) (d : List ℕ) (st : SectionBits) (part : List ℕ) : Type 0 where
  pub table : Table q d
  pub state : State st
  pub stands : bits_in st ≡ q * j
  pub room : q * (j + n) ≤ 8 * length part

-- they are read, the i-th of them from element e i
pub record ReadOn (q j n : ℕ) (e : ℕ → ℕ) (d g : List ℕ) (st : SectionBits) (part : List ℕ) (st' : SectionBits) (part' : List ℕ) : Type 0 where
  pub state : State st'
  pub size : length part' ≡ length part
  pub stands : bits_in st' ≡ q * (j + n)
  pub gathers :
      (b : ℕ → ℕ) (r : Registers) → Bits b → ((i : ℕ) → i < n → Stands q d g b (j + i) (e i)) → Gathered b r st part → Gathered b r st' part'

-- ---- their elements
-- of pairs of places, `gap` from the first to the second, on the port that sends the symbols themselves
abbrev pub pair_element : ℕ → ℕ → ℕ → ℕ → ℕ → ℕ → ℕ → ℕ
pair_element P T j start step gap i = own_port P ((j + i) / 2 % 2) * T + (start + step * (i / 2) + gap * (i % 2))

-- of a run's places
abbrev pub run_element : ℕ → ℕ → ℕ → Run → ℕ → ℕ
run_element P T j run i = own_port P ((j + i) / 2 % 2) * T + (run.first + place_at run.mask i)

-- ---- runs
pub record BeforePairs (mask off : ℕ) : Type 0 where
  pub right : mask ≡ 54 → off ≡ 1
  pub left : (mask ≡ 54 → ⊥) → off ≡ 0

-- a run is read, and the index after it
abbrev pub RunRead : ℕ → ℕ → ℕ → ℕ → Run → List ℕ → List ℕ → SectionBits → List ℕ → ℕ → SectionBits → List ℕ → Type 0
RunRead q P T j run d g st part x st' part' = (x ≡ j + run_count run) × ReadOn q j (run_count run) (run_element P T j run) d g st part st' part'
