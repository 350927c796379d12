-- For the inner contracts and loops only: what the functions over a signal need, and its elements by their numbers, from the first one on.
use Rattle.std.specs.Prelude.{ℕ, ◌+◌, ◌-◌, ◌*◌, ◌/◌, ◌%◌, ◌^◌, ◌<◌, ◌≤◌, ◌≡◌, ◌⊎◌, Bool, true, cond, ◌&&◌, List, leb, ltb, eqb, pos, get_or, length}
use Rattle.base.specs.declared.Element.{Element}
use Rattle.base.specs.Bytes.{element_of}
use Rattle.gold.specs.declared.Registers.{Registers}
use Rattle.crs.specs.Crs.{word_value}
use Rattle.sync.specs.declared.Sss.{Sss}
use Rattle.sync.specs.Pss.{pss_phase}
use Rattle.sync.specs.Inner.{level_in}
use Rattle.plan.specs.Valid.{CellIn}
use Rattle.plan.specs.declared.Cell.{Cell}
use Rattle.layout.specs.Rules.{crs_shift}
use Rattle.layout.specs.Owners.{symbols, carriers}
use Rattle.places.specs.Places.{places_of}
use Rattle.grid.specs.Writing.{Room}
use Rattle.signals.specs.Signals.{crs_from, signalled}

-- an accepted cell and its whole grid
pub record MarkIn (c : Cell) (grid : List ℕ) : Type 0 where
  pub cell : CellIn c
  pub room : Room c.ports (places_of c) grid

-- and a symbol of it in which a reference signal stands
pub record SymbolIn (c : Cell) (s : ℕ) (grid : List ℕ) : Type 0 where
  pub cell : CellIn c
  pub symbol : s < symbols c
  pub signal : signalled c s ≡ true
  pub room : Room c.ports (places_of c) grid

-- the first element of a port's reference signal in symbol s
unfoldable pub crs_place : Cell → ℕ → ℕ → ℕ
crs_place c s q = q * places_of c + s * carriers c + (crs_shift c q s + c.identity) % 6

-- ---- reference signals: n elements, every sixth from `first` on
unfoldable pub every_sixth : ℕ → ℕ → ℕ → Bool
every_sixth first n e = leb first e && eqb ((e - first) % 6) 0 && ltb ((e - first) / 6) n

-- value i of n in a word of 2n bits, the first most significant
unfoldable pub value_in : ℕ → ℕ → ℕ → Element
value_in word n i = element_of 2 (word_value (word / 2 ^ (2 * (n - 1 - i)) % 4))

unfoldable pub word_sent : ℕ → ℕ → ℕ → ℕ → Element
word_sent word n first e = value_in word n ((e - first) / 6)

-- value m of what the pair gives
unfoldable pub pair_sent : Registers → ℕ → ℕ → Element
pair_sent r first e = element_of 2 (crs_from r ((e - first) / 6))

-- ---- the same values on two ports, from `first` on and from `second` on. The element on the first port that has e's value
unfoldable pub on_first : ℕ → ℕ → ℕ → ℕ
on_first first second e = cond (leb second e) (first + (e - second)) e

-- a test of the first port's elements, or their values, on both ports
abbrev pub on_both : {A : Type 0} → ℕ → ℕ → (ℕ → A) → ℕ → A
on_both first second f e = f (on_first first second e)

-- and on each of the ports that send a symbol's reference signals, by the first elements there: one port, or two
abbrev pub first_of : List ℕ → ℕ
first_of firsts = get_or firsts 0 0

abbrev pub last_of : List ℕ → ℕ
last_of firsts = get_or firsts (length firsts - 1) 0

abbrev pub on_each : {A : Type 0} → List ℕ → (ℕ → A) → ℕ → A
on_each firsts f = on_both (first_of firsts) (last_of firsts) f

-- n elements on each port lie in the grid, and those on the one end before the other's
pub record EachIn (firsts : List ℕ) (n : ℕ) (grid : List ℕ) : Type 0 where
  pub ports : (length firsts ≡ 1) ⊎ (length firsts ≡ 2)
  pub apart : length firsts ≡ 2 → first_of firsts + 6 * n ≤ last_of firsts
  pub inside : 3 * (last_of firsts + 6 * n) + 2 < length grid + 18

-- ---- synchronisation: 62 elements from `first` on
unfoldable pub in_row : ℕ → ℕ → ℕ → Bool
in_row first n e = leb first e && ltb e (first + n)

unfoldable pub phase_element : ℕ → ℕ → Element
phase_element C i = record { byte = 63; i = pss_phase C i; j = 0 }

unfoldable pub phase_sent : ℕ → ℕ → ℕ → Element
phase_sent C first e = phase_element C (e - first)

unfoldable pub level_element : Sss → ℕ → Element
level_element d i = element_of 1 (record { re = level_in d i; im = pos 0 })

unfoldable pub level_sent : Sss → ℕ → ℕ → Element
level_sent d first e = level_element d (e - first)

-- what may be element i of such a signal is what W says from `first` on
abbrev pub Gives : (ℕ → Element → Type 0) → ℕ → (ℕ → Element) → Type 0
Gives P first W = (i : ℕ) (el : Element) → i < 62 → P i el → el ≡ W (first + i)
