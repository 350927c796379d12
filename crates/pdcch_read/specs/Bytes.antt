-- For the inner contracts and loops only: bytes of control elements by the table of groups, read one after the other.
use Rattle.std.specs.Prelude.{ℕ, suc, ◌+◌, ◌-◌, ◌*◌, ◌/◌, ◌≤◌, ◌<◌, ◌≡◌, true, List, length, get_or}
use Rattle.gold.specs.declared.Registers.{Registers}
use Rattle.gold.specs.Sequence.{binary}
use Rattle.gold.specs.Steps.{after}
use Rattle.codeword.specs.Codewords.{scrambled}
use Rattle.codeword.specs.Streams.{outputs}
use Rattle.precoding.specs.Places.{own_port}
use Rattle.constellation.specs.Axis.{Axis}
use Rattle.plan.specs.declared.Cell.{Cell}
use Rattle.places.specs.Places.{places_of}
use Rattle.section_bits.specs.Gathering.{Bits}
use Rattle.data_read.specs.Runs.{Stands}
use Rattle.pdcch.specs.Block.{is_given}
use Rattle.pdcch_compare.specs.Quads.{entry_place, table_place, TableIn}
use Rattle.pdcch_read.specs.Reading.{Apart}

-- ---- a quad
-- its element k, on the port that sends the symbol itself
abbrev pub entry_element : Cell → ℕ → ℕ → ℕ
entry_element c x k = own_port c.ports (k / 2) * places_of c + entry_place c x k

pub record EntryRead (c : Cell) (x : ℕ) (d g : List ℕ) (w : ℕ) : Type 0 where
  pub few : w < 256
  pub bits : (b : ℕ → ℕ) (j : ℕ) → ((k : ℕ) → k < 4 → Stands 2 d g b (j + k) (entry_element c x k)) → w ≡ binary b (2 * j) 8

-- ---- a control element
abbrev pub table_element : Cell → List ℕ → ℕ → ℕ
table_element c table j = own_port c.ports (j / 2) * places_of c + table_place c table j

-- the bits b are those of element e's symbols
abbrev pub ElementStands : Cell → List ℕ → List ℕ → List ℕ → (ℕ → ℕ) → ℕ → Type 0
ElementStands c table d g b e = (k : ℕ) → k < 36 → Stands 2 d g b (36 * e + k) (table_element c table (36 * e + k))

pub record ElementIn (c : Cell) (table : List ℕ) (e : ℕ) (d g : List ℕ) : Type 0 where
  pub table-in : TableIn c table (9 * e + 9) g
  pub axis : Axis 2 d

-- n of its bytes are put from `at` on, with what the pair r gives taken off, and the pair after them
pub record ElementPut (c : Cell) (table : List ℕ) (e : ℕ) (d g : List ℕ) (at : ℕ) (r : Registers) (before : List ℕ) (n : ℕ) (s : Registers) (part : List ℕ) : Type 0 where
  pub size : length part ≡ length before
  pub pair : s ≡ after r (8 * n)
  pub bytes :
      (b : ℕ → ℕ) (o : Registers) (i : ℕ) → Bits b → r ≡ after o (72 * e) → ElementStands c table d g b e → i < n
      → get_or part (at + i) 0 ≡ binary (scrambled b (outputs o)) (72 * e + 8 * i) 8
  pub kept : (m : ℕ) → (at ≤ m → m < at + 9 → ⊥) → get_or part m 0 ≡ get_or before m 0

pub record Quads (c : Cell) (table : List ℕ) (e : ℕ) (d g : List ℕ) (at : ℕ) (r : Registers) (before : List ℕ) (n : ℕ) (s : Registers) (part : List ℕ) : Type 0 where
  pub few : n ≤ 9
  pub done : ElementPut c table e d g at r before n s part

-- if it is given, where n is not 0
pub record ChosenPut (c : Cell) (table : List ℕ) (e : ℕ) (d g : List ℕ) (n : ℕ) (r : Registers) (before : List ℕ) (s : Registers) (part : List ℕ) : Type 0 where
  pub pair : s ≡ after r 72
  pub none : n ≡ 0 → part ≡ before
  pub some : (n ≡ 0 → ⊥) → ElementPut c table e d g (9 * (n - 1)) r before 9 s part

-- ---- all given elements
pub record GivenIn (c : Cell) (elements : ℕ) (table from d g part : List ℕ) : Type 0 where
  pub table-in : TableIn c table (9 * elements) g
  pub few : elements ≤ 88
  pub axis : Axis 2 d
  pub apart : Apart from
  pub inside : (e : ℕ) → 9 * get_or from e 0 ≤ length part

pub record GivenPut (c : Cell) (table from d g : List ℕ) (r : Registers) (before : List ℕ) (n : ℕ) (part : List ℕ) : Type 0 where
  pub size : length part ≡ length before
  pub bytes :
      (b : ℕ → ℕ) (e i : ℕ) → Bits b → e < n → is_given from e ≡ true → ElementStands c table d g b e → i < 9
      → get_or part (9 * (get_or from e 0 - 1) + i) 0 ≡ binary (scrambled b (outputs r)) (72 * e + 8 * i) 8
  pub kept : (m : ℕ) → ((e : ℕ) → e < n → is_given from e ≡ true → get_or from e 0 ≡ suc (m / 9) → ⊥) → get_or part m 0 ≡ get_or before m 0

pub record Given (c : Cell) (elements : ℕ) (table from d g : List ℕ) (r : Registers) (before : List ℕ) (n : ℕ) (s : Registers) (part : List ℕ) : Type 0 where
  pub few : n ≤ elements
  pub pair : s ≡ after r (72 * n)
  pub done : GivenPut c table from d g r before n part
