-- For the inner contracts and loops only: the HIs' bits back from a grid, by the cell alone, and a section that is written bit by bit.
-- proofs/ReadingOwners.antt: they are those of recovery's sums_in and ack_bit, and under an accepted plan `read_his` may be called.
use Rattle.std.specs.Prelude.{ℕ, ◌+◌, ◌*◌, ◌/◌, ◌%◌, ◌^◌, ◌≤◌, ◌<◌, ◌≡◌, cond, List, eqb, length, get_or, set}
use Rattle.base.specs.declared.Pair.{Pair}
use Rattle.base.specs.Bytes.{pair_of}
use Rattle.base.specs.Tables.{table}
use Rattle.gold.specs.declared.Registers.{Registers}
use Rattle.codeword.specs.Streams.{outputs}
use Rattle.precoding.specs.Places.{own_port}
use Rattle.grid.specs.Elements.{element_in}
use Rattle.grid.specs.Writing.{Room}
use Rattle.phich.specs.His.{hi_number}
use Rattle.phich.specs.Units.{mapping_unit}
use Rattle.phich.specs.Recovery.{bit_in}
use Rattle.phich.specs.Spreading.{spread_length}
use Rattle.plan.specs.Fields.{mapping_units}
use Rattle.plan.specs.Valid.{CellIn}
use Rattle.plan.specs.declared.Cell.{Cell}
use Rattle.plan.specs.declared.Hi.{Hi}
use Rattle.plan.specs.declared.CommandList.{CommandList}
use Rattle.places.specs.Places.{place_number, places_of}
use Rattle.places.specs.Quads.{quad_place}
use Rattle.payload.specs.Sections.{section_bytes}
use Rattle.layout.specs.Rules.{quad_symbol, quad_group}
use Rattle.control.specs.Filling.{CellHis}

-- the number of the element at place i of unit m, on the port that sends the sum itself: quad i / 4 uses one port or the other by i / 4 + m
unfoldable pub own_element : Cell → ℕ → ℕ → ℕ
own_element c m i =
    let s = quad_symbol c (i / 4) in own_port c.ports (i / 4 + m) * places_of c + place_number c s (quad_place c s (quad_group c m (i / 4)) (i % 4))

-- the sum at place i of unit m in a grid, and all twelve
unfoldable pub sum_read : Cell → ℕ → List ℕ → ℕ → Pair
sum_read c m g i = pair_of (element_in g (own_element c m i))

unfoldable pub sums_of : Cell → ℕ → List ℕ → List Pair
sums_of c m g = table 12 (sum_read c m g)

-- the bit of HI n of the HIs hs, with the scrambling bits of a register pair
unfoldable pub ack_from : Cell → Registers → List Hi → List ℕ → ℕ → ℕ
ack_from c r hs g n = bit_in (spread_length c) (outputs r) (hi_number hs n) (sums_of c (mapping_unit (spread_length c) (hi_number hs n)) g)

-- a unit of the cell and a grid of the cell
pub record UnitRead (c : Cell) (m : ℕ) (grid : List ℕ) : Type 0 where
  pub cell : CellIn c
  pub unit : m < mapping_units c
  pub room : Room c.ports (places_of c) grid

-- the levels of the first n places of the units' first quads are read: place y is place y % 4 of unit y / 4
pub record FirstRead (c : Cell) (grid : List ℕ) (n : ℕ) (first : List ℕ) : Type 0 where
  pub size : length first ≡ 200
  pub read : (y : ℕ) → y < n → (get_or first (2 * y) 0 ≡ (element_in grid (own_element c (y / 4) (y % 4))).i) × (get_or first (2 * y + 1) 0 ≡ (element_in grid (own_element c (y / 4) (y % 4))).j)

-- a grid of the cell, and bytes for them
pub record QuadsIn (c : Cell) (grid first : List ℕ) : Type 0 where
  pub cell : CellIn c
  pub room : Room c.ports (places_of c) grid
  pub size : length first ≡ 200

-- HIs of the cell and a grid of the cell
pub record HisRead (c : Cell) (his : CommandList) (plan grid : List ℕ) : Type 0 where
  pub cell-his : CellHis c his plan
  pub room : Room c.ports (places_of c) grid

-- and the bytes of their section
pub record ReadIn (c : Cell) (his : CommandList) (plan grid part : List ℕ) : Type 0 where
  pub each : HisRead c his plan grid
  pub size : length part ≡ section_bytes his.count

-- bit n written after those before it, most significant first: with the first bit of a byte the others are 0
abbrev pub held_at : List ℕ → ℕ → ℕ
held_at part n = cond (eqb (n % 8) 0) 0 (get_or part (n / 8) 0)

unfoldable pub pushed : List ℕ → ℕ → ℕ → List ℕ
pushed part n b = set part (n / 8) (held_at part n + b * (128 / 2 ^ (n % 8)))

-- a byte to write it to, with room for it
pub record PushIn (part : List ℕ) (n b : ℕ) : Type 0 where
  pub inside : n / 8 < length part
  pub fits : held_at part n + b * (128 / 2 ^ (n % 8)) ≤ 255
