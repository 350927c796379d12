-- For the inner contracts only: what writing a channel needs, and how many bits of its sequence it uses. p is the plan that the plan check
-- answers with. t is a table of elements and masks a byte for each symbol of the users' rows, both lent.
use Rattle.std.specs.Prelude.{ℕ, ◌*◌, ◌≡◌, true, List, Ok as accepted}
use Rattle.modulation.specs.Symbols.{unit_of}
use Rattle.phich.specs.Spreading.{spread_length}
use Rattle.phich.specs.Loops.{Levels}
use Rattle.plan.specs.Check.{check_of}
use Rattle.plan.specs.declared.Plan.{Plan}
use Rattle.counts.specs.Users.{user_elements}
use Rattle.places.specs.Places.{places_of}
use Rattle.grid.specs.Writing.{Room}
use Rattle.payload.specs.Payload.{pbch_bit_count}
use Rattle.areas.specs.Tables.{RowMasks}
use Rattle.data_write.specs.Sent.{TableOf}
use Rattle.schedule.specs.Schedule.{TurnOf, HasSequence, present_in}
use Rattle.schedule.specs.declared.Channel.{Channel}
use Rattle.schedule.specs.declared.Channel.TheVariants.{Crs, Sync, Pbch, Pcfich, Phich, User}

-- how many bits of the sequence it uses
unfoldable pub bits_used : Plan → Channel → ℕ
-- two for each of a symbol's values: "m = 0..2N−1, value ((1−2c(2m')), (1−2c(2m'+1)))"
bits_used p (Crs s) = 4 * p.cell.blocks
bits_used p (Sync m) = 0
-- "PBCH when f = 0 (480 bits, extended 432)"
bits_used p Pbch = pbch_bit_count p.cell p.frame
-- "32-bit codewords repeat 011, 101, 110 for CFI 1, 2, 3"
bits_used p Pcfich = 32
-- "The bit is sent three times, BPSK, spread and scrambled by 36.211 6.9.1": three times N_SF
bits_used p (Phich m) = 3 * spread_length p.cell
-- "per user Q × G bits, G its element count"
bits_used p (User u) = u.order * user_elements p.cell p.frame u.first u.count

-- what a channel's bytes are to be: a unit's sums are of at most eight HIs
unfoldable pub LevelsIn : Channel → List ℕ → Type 0
LevelsIn (Crs s) bits = Unit {0}
LevelsIn (Sync m) bits = Unit {0}
LevelsIn Pbch bits = Unit {0}
LevelsIn Pcfich bits = Unit {0}
LevelsIn (Phich m) bits = Levels 8 bits
LevelsIn (User u) bits = Unit {0}

-- the table is that of the channel's order, for those that read it
unfoldable pub TableFor : Plan → Channel → List ℕ → Type 0
TableFor p (Crs s) t = Unit {0}
TableFor p (Sync m) t = Unit {0}
TableFor p Pbch t = TableOf p.cell.ports 2 2 t
TableFor p Pcfich t = Unit {0}
TableFor p (Phich m) t = Unit {0}
TableFor p (User u) t = TableOf p.cell.ports u.order (unit_of u.order) t

-- a channel of an accepted plan that the subframe has
pub record ChannelIn (p : Plan) (ch : Channel) (t masks bits grid : List ℕ) : Type 0 where
  pub bytes : List ℕ
  pub plan : check_of bytes ≡ accepted p
  pub number : ℕ
  pub turn : TurnOf bytes p number ch
  pub present : present_in p ch ≡ true
  pub levels : LevelsIn ch bits
  pub table : TableFor p ch t
  pub rows : RowMasks p.cell p.frame p.cell.ports true 14 masks
  pub room : Room p.cell.ports (places_of p.cell) grid

-- and one with a sequence
abbrev pub SequenceIn : Plan → Channel → List ℕ → List ℕ → List ℕ → List ℕ → Type 0
SequenceIn p ch t masks bits grid = ChannelIn p ch t masks bits grid × HasSequence ch
