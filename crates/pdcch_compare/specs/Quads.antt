-- For the inner contracts and loops only: a quad's places by its entry in the table of groups, and what stands there in a grid.
use Rattle.std.specs.Prelude.{ℕ, ◌+◌, ◌-◌, ◌*◌, ◌/◌, ◌%◌, ◌≤◌, ◌<◌, ◌≡◌, true, cond, List, ltb, get_or, Option, Some, None}
use Rattle.base.specs.Counts.{cnt}
use Rattle.plan.specs.declared.Cell.{Cell}
use Rattle.places.specs.Places.{places_of}
use Rattle.grid.specs.Writing.{Room}
use Rattle.data_compare.specs.declared.Form.{Form}
use Rattle.data_compare.specs.Tests.{Tells, FormOf}
use Rattle.data_compare.specs.Places.{RightAt, PairsSeen}
use Rattle.pdcch.specs.Groups.{gap_of}
use Rattle.pdcch.specs.Block.{is_given}

-- from the first pair of a quad to the second; `four` is 1 for a group of four subcarriers
abbrev pub step_of : ℕ → ℕ
step_of four = 3 - four

-- place k of the quad with entry x, and place j of the block by its table
unfoldable pub entry_place : Cell → ℕ → ℕ → ℕ
entry_place c x k = x / 2 + step_of (x % 2) * (k / 2) + gap_of c (x % 2) * (k % 2)

unfoldable pub table_place : Cell → List ℕ → ℕ → ℕ
table_place c table j = entry_place c (get_or table (j / 4) 0) (j % 4)

-- a quad inside a grid, by its first place or its entry; and the first n of a table
pub record QuadIn (P T start step gap : ℕ) (g : List ℕ) : Type 0 where
  pub room : Room P T g
  pub short : step ≤ 3
  pub inside : start + step + gap < T

pub record EntryIn (c : Cell) (x : ℕ) (g : List ℕ) : Type 0 where
  pub room : Room c.ports (places_of c) g
  pub inside : entry_place c x 3 < places_of c

pub record TableIn (c : Cell) (table : List ℕ) (n : ℕ) (g : List ℕ) : Type 0 where
  pub room : Room c.ports (places_of c) g
  pub few : n ≤ 800
  pub inside : (q : ℕ) → q < n → entry_place c (get_or table q 0) 3 < places_of c

-- ---- what stands there: a quad,
pub record EntrySeen (c : Cell) (x : ℕ) (f : Form) (g : List ℕ) (r : ℕ) : Type 0 where
  pub pairs : PairsSeen c.ports (places_of c) (gap_of c (x % 2)) 0 (x / 2) (step_of (x % 2)) 2 f g r

-- the first n symbols of control element e, which has 36,
pub record ElementSeen (c : Cell) (table : List ℕ) (e : ℕ) (f : Form) (g : List ℕ) (n r : ℕ) : Type 0 where
  pub seen : (q u : ℕ) → FormOf q u f → Tells r n (λ (k : ℕ). RightAt (table_place c table) c.ports (places_of c) q u g (36 * e + k))

pub record Quads (c : Cell) (table : List ℕ) (e : ℕ) (f : Form) (g : List ℕ) (bad i : ℕ) : Type 0 where
  pub few : i ≤ 9
  pub done : ElementSeen c table e f g (4 * i) bad

-- all of them, if the element is given, where n is not 0,
abbrev pub ElementRight : Cell → List ℕ → ℕ → ℕ → List ℕ → ℕ → Type 0
ElementRight c table q u g e = (k : ℕ) → k < 36 → RightAt (table_place c table) c.ports (places_of c) q u g (36 * e + k)

pub record ChosenSeen (c : Cell) (table : List ℕ) (e n : ℕ) (f : Form) (g : List ℕ) (given r : ℕ) : Type 0 where
  pub count : given ≡ cond (ltb 0 n) 1 0
  pub right : (q u : ℕ) → FormOf q u f → r ≡ 0 → ltb 0 n ≡ true → ElementRight c table q u g e
  pub none : (q u : ℕ) → FormOf q u f → (ltb 0 n ≡ true → ElementRight c table q u g e) → r ≡ 0

-- and the first m elements
pub record GivenSeen (c : Cell) (table from : List ℕ) (f : Form) (g : List ℕ) (m given r : ℕ) : Type 0 where
  pub count : given ≡ cnt (is_given from) m
  pub seen : (q u : ℕ) → FormOf q u f → Tells r m (λ (e : ℕ). is_given from e ≡ true → ElementRight c table q u g e)

pub record Given (c : Cell) (table from : List ℕ) (f : Form) (g : List ℕ) (elements given r e : ℕ) : Type 0 where
  pub few : e ≤ elements
  pub done : GivenSeen c table from f g e given r

-- all of them: how many they are, or that some are wrong
pub record GivenWrong (c : Cell) (table from : List ℕ) (f : Form) (g : List ℕ) (m : ℕ) : Type 0 where
  pub given : ℕ
  pub bad : ℕ
  pub some : bad ≡ 0 → ⊥
  pub done : GivenSeen c table from f g m given bad

abbrev pub GivenTold : Cell → List ℕ → List ℕ → Form → List ℕ → ℕ → Option ℕ → Type 0
GivenTold c table from f g m (Some n) = GivenSeen c table from f g m n 0
GivenTold c table from f g m None = GivenWrong c table from f g m
