-- For the inner contracts and loops only: a channel's scrambled bits b on their way into a section of the payload.
use Rattle.std.specs.Prelude.{if◌then◌else◌, ℕ, ◌+◌, ◌*◌, ◌/◌, ◌%◌, ◌^◌, ◌≤◌, ◌<◌, ◌≡◌, List, ltb, length, get_or, set}
use Rattle.gold.specs.declared.Registers.{Registers}
use Rattle.gold.specs.Sequence.{binary}
use Rattle.gold.specs.Steps.{after}
use Rattle.gold.specs.Wide.{wide_of}
use Rattle.codeword.specs.Codewords.{scrambled}
use Rattle.codeword.specs.Streams.{outputs}
use Rattle.section_bits.specs.declared.SectionBits.{SectionBits}

-- ---- bytes
-- two and four bytes of a number in a list
abbrev pub with_two : ℕ → ℕ → List ℕ → List ℕ
with_two v at part = set (set part at (v / 256 % 256)) (at + 1) (v % 256)

abbrev pub with_four : ℕ → ℕ → List ℕ → List ℕ
with_four v at part = with_two v (at + 2) (with_two (v / 65536) at part)

-- the first n bytes of a list are the bits x
abbrev pub Bytes : (ℕ → ℕ) → ℕ → List ℕ → Type 0
Bytes x n part = (m : ℕ) → m < n → get_or part m 0 ≡ binary x (8 * m) 8

-- the bits below n, and zeros
abbrev pub up_to : (ℕ → ℕ) → ℕ → ℕ → ℕ
up_to x n i = if ltb i n then x i else 0

abbrev pub Bits : (ℕ → ℕ) → Type 0
Bits x = (i : ℕ) → x i < 2

-- ---- the state: so many bits are taken in, and the last of them, fewer than 48, are held
abbrev pub bits_in : SectionBits → ℕ
bits_in st = 8 * st.at + st.held

pub record State (st : SectionBits) : Type 0 where
  pub few : st.held < 48
  pub whole : st.at % 6 ≡ 0

-- they are those of b, and what the pair r gives is taken off those that are put
pub record Gathered (b : ℕ → ℕ) (r : Registers) (st : SectionBits) (part : List ℕ) : Type 0 where
  pub pair : st.wide ≡ wide_of (after r (8 * st.at))
  pub held : st.word % 2 ^ st.held ≡ binary b (8 * st.at) st.held
  pub bytes : Bytes (scrambled b (outputs r)) st.at part

-- what `begin` gives
pub record Begun (r : Registers) (st : SectionBits) : Type 0 where
  pub state : State st
  pub none : bits_in st ≡ 0
  pub gathered : (b : ℕ → ℕ) (part : List ℕ) → Gathered b r st part

-- what `put48` gives: six bytes more, and the pair after them
pub record Puts48 (v : ℕ) (st : SectionBits) (part : List ℕ) (st' : SectionBits) (part' : List ℕ) : Type 0 where
  pub size : length part' ≡ length part
  pub byte : st'.at ≡ st.at + 6
  pub word : st'.word ≡ st.word
  pub held : st'.held ≡ st.held
  pub puts :
      (b : ℕ → ℕ) (r : Registers) → Bits b → v ≡ binary b (8 * st.at) 48 → st.wide ≡ wide_of (after r (8 * st.at))
      → Bytes (scrambled b (outputs r)) st.at part
      → (st'.wide ≡ wide_of (after r (8 * st.at + 48))) × Bytes (scrambled b (outputs r)) (st.at + 6) part'

-- what `give` needs: the section has n bits more, and the word has room for them
pub record GiveIn (n v : ℕ) (st : SectionBits) (part : List ℕ) : Type 0 where
  pub state : State st
  pub fits : st.held + n ≤ 64
  pub most : n ≤ 48
  pub value : v < 2 ^ n
  pub room : bits_in st + n ≤ 8 * length part

-- and what it gives
pub record Gives (n v : ℕ) (st : SectionBits) (part : List ℕ) (st' : SectionBits) (part' : List ℕ) : Type 0 where
  pub state : State st'
  pub size : length part' ≡ length part
  pub taken : bits_in st' ≡ bits_in st + n
  pub gathers : (b : ℕ → ℕ) (r : Registers) → Bits b → v ≡ binary b (bits_in st) n → Gathered b r st part → Gathered b r st' part'

-- ---- the last bytes
-- from a byte on they are the next 48 bits, and zeros
pub record LastBytes (v₀ at₀ : ℕ) (part₀ : List ℕ) (v at : ℕ) (part : List ℕ) : Type 0 where
  pub size : length part ≡ length part₀
  pub goes :
      (x : ℕ → ℕ) → Bits x → v₀ ≡ binary x (8 * at₀) 48 → ((i : ℕ) → 8 * at₀ + 48 ≤ i → x i ≡ 0) → Bytes x at₀ part₀
      → (at₀ ≤ at) × (v ≡ binary x (8 * at) 48) × Bytes x at part

pub record PutLast (v at : ℕ) (before after' : List ℕ) : Type 0 where
  pub size : length after' ≡ length before
  pub bytes :
      (x : ℕ → ℕ) → Bits x → v ≡ binary x (8 * at) 48 → ((i : ℕ) → 8 * at + 48 ≤ i → x i ≡ 0) → Bytes x at before
      → Bytes x (length before) after'

-- the bytes of all bits that were taken in, with zeros after them
pub record Flushed (st : SectionBits) (before after' : List ℕ) : Type 0 where
  pub size : length after' ≡ length before
  pub bytes :
      (b : ℕ → ℕ) (r : Registers) → Bits b → length before ≡ (bits_in st + 7) / 8 → Gathered b r st before
      → Bytes (up_to (scrambled b (outputs r)) (bits_in st)) (length before) after'
