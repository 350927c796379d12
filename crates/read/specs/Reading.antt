-- For the inner contracts and loops only: what reading the sections needs, and how far it has come.
use Rattle.std.specs.Prelude.{if◌then◌else◌, ℕ, ◌+◌, ◌*◌, ◌≤◌, ◌<◌, ◌≡◌, true, List, length, get_or, Ok as accepted, Option, Some}
use Rattle.plan.specs.Check.{check_of}
use Rattle.plan.specs.Valid.{CellIn, FrameIn}
use Rattle.plan.specs.declared.Plan.{Plan}
use Rattle.places.specs.Places.{places_of}
use Rattle.payload.specs.Sections.{section_bytes}
use Rattle.payload.specs.Payload.{pbch_bit_count, payload_length}
use Rattle.grid.specs.Writing.{Room}
use Rattle.subframe.specs.Grid.{grid_of}
use Rattle.recovery.specs.Recovery.{payload_in, section_of}
use Rattle.constellation.specs.Axis.{Axis}
use Rattle.areas.specs.declared.Area.{Area}
use Rattle.areas.specs.Areas.{area_count, SignalsIn, pbch_area, user_area}
use Rattle.areas.specs.Tables.{RowMasks}
use Rattle.data_read.specs.Reading.{area_bit, SectionIn}
use Rattle.schedule.specs.Schedule.{signal_turns, start_pair, Among, present_in}
use Rattle.schedule.specs.declared.Turn.{Turn}
use Rattle.schedule.specs.declared.Channel.{Channel}
use Rattle.schedule.specs.declared.Channel.TheVariants.{Crs, Sync, Pbch, Pcfich, Phich, User}

-- an accepted plan, a grid that the payload read from it makes, and a payload of the plan's length
pub record Readable (w : List ℕ) (p : Plan) (grid payload : List ℕ) : Type 0 where
  pub answer : check_of w ≡ accepted p
  pub room : Room p.cell.ports (places_of p.cell) grid
  pub made : grid_of w p (payload_in w p grid) ≡ grid
  pub size : length payload ≡ payload_length w p

-- ---- HOW FAR
-- the payload's bytes from number a on and below b are read
pub record BytesRead (w : List ℕ) (p : Plan) (grid : List ℕ) (a b : ℕ) (payload : List ℕ) : Type 0 where
  pub byte : (i : ℕ) → a ≤ i → i < b → get_or payload i 0 ≡ get_or (payload_in w p grid) i 0

-- before turn t: the HIs' section and those of the users before it; and PBCH's, which is the first one, once its turn is over
pub record ReadBefore (w : List ℕ) (p : Plan) (grid : List ℕ) (t : Turn) (payload : List ℕ) : Type 0 where
  pub size : length payload ≡ payload_length w p
  pub pbch : signal_turns p.cell + 2 < t.number → BytesRead w p grid 0 (section_bytes (pbch_bit_count p.cell p.frame)) payload
  pub others : BytesRead w p grid (section_bytes (pbch_bit_count p.cell p.frame)) t.start payload

-- ---- A CHANNEL'S SECTION
-- what reading it from the area a needs, with symbols of q bits
pub record PartIn (p : Plan) (ch : Channel) (a : Area) (q : ℕ) (grid part : List ℕ) : Type 0 where
  pub begins : CellIn p.cell × FrameIn p.frame × Among p ch
  pub section : SectionIn a q grid
  pub signals : SignalsIn a
  pub size : length part ≡ section_bytes (q * area_count a)

-- and what is read there
abbrev pub part_read : Plan → Channel → Area → ℕ → List ℕ → List ℕ
part_read p ch a q grid = section_of (area_bit a q grid (start_pair p ch)) (q * area_count a)

-- the same by the channel, where the subframe has it: PBCH and the users have a section of their own
unfoldable pub PartOf : Plan → Channel → List ℕ → List ℕ → Type 0
PartOf p (Crs s) grid part = Unit {0}
PartOf p (Sync m) grid part = Unit {0}
PartOf p Pbch grid part = PartIn p Pbch (pbch_area p.cell p.frame) 2 grid part
PartOf p Pcfich grid part = Unit {0}
PartOf p (Phich m) grid part = Unit {0}
PartOf p (User u) grid part = PartIn p (User u) (user_area p.cell p.frame u) u.order grid part

unfoldable pub own_part : Plan → Channel → List ℕ → List ℕ → List ℕ
own_part p (Crs s) grid part = part
own_part p (Sync m) grid part = part
own_part p Pbch grid part = part_read p Pbch (pbch_area p.cell p.frame) 2 grid
own_part p Pcfich grid part = part
own_part p (Phich m) grid part = part
own_part p (User u) grid part = part_read p (User u) (user_area p.cell p.frame u) u.order grid

abbrev pub part_after : Plan → Channel → List ℕ → List ℕ → List ℕ
part_after p ch grid part = if present_in p ch then own_part p ch grid part else part

-- the masks of the users' rows, and the table of an order's levels, or of none where the order is 0
abbrev pub UserMasks : Plan → List ℕ → Type 0
UserMasks p masks = RowMasks p.cell p.frame p.cell.ports true 14 masks

abbrev pub AxisOf : Option ℕ → List ℕ → Type 0
AxisOf have d = (length d ≡ 32) × ((q : ℕ) → have ≡ Some q → Axis q d)

-- what reading a channel needs, where the subframe has it, with the tables that callers lend
pub record ChannelIn (p : Plan) (ch : Channel) (have : Option ℕ) (d masks grid part : List ℕ) : Type 0 where
  pub own : present_in p ch ≡ true → PartOf p ch grid part
  pub axis : AxisOf have d
  pub rows : UserMasks p masks
