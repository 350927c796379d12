-- For the inner contracts and loops only: what filling a grid needs, and what its turns share.
use Rattle.std.specs.Prelude.{ℕ, ◌≡◌, true, List, length, Option, Some, None, Ok as accepted}
use Rattle.modulation.specs.Symbols.{unit_of}
use Rattle.plan.specs.Check.{check_of}
use Rattle.plan.specs.declared.Plan.{Plan}
use Rattle.places.specs.Places.{places_of}
use Rattle.payload.specs.Payload.{AcceptedPayload}
use Rattle.grid.specs.Writing.{Room}
use Rattle.areas.specs.Tables.{RowMasks}
use Rattle.data_write.specs.Sent.{TableOf}
use Rattle.schedule.specs.Schedule.{TurnOf, lent_to, SumsOf}
use Rattle.schedule.specs.declared.Channel.{Channel}
use Rattle.schedule.specs.declared.Channel.TheVariants.{Crs, Sync, Pbch, Pcfich, Phich, User}
use Rattle.channel_write.specs.Channels.{LevelsIn}

-- an accepted plan, an accepted payload, and a grid of the plan's length
pub record Ready (w : List ℕ) (p : Plan) (payload grid : List ℕ) : Type 0 where
  pub answer : check_of w ≡ accepted p
  pub right : AcceptedPayload w p payload
  pub room : Room p.cell.ports (places_of p.cell) grid

-- what all turns share: the masks of the users' rows, and the sums of all units
pub record Shared (w : List ℕ) (p : Plan) (payload masks sums : List ℕ) : Type 0 where
  pub rows : RowMasks p.cell p.frame p.cell.ports true 14 masks
  pub made : SumsOf w p payload sums

-- t has the elements of order `have` on P ports, if there is one
pub record Having (P : ℕ) (have : Option ℕ) (t : List ℕ) : Type 0 where
  pub size : length t ≡ 256
  pub table : (q : ℕ) → have ≡ Some q → TableOf P q (unit_of q) t

-- the order whose table a channel reads, if it reads one
unfoldable pub order_of : Channel → Option ℕ
order_of (Crs s) = None
order_of (Sync m) = None
order_of Pbch = Some 2
order_of Pcfich = None
order_of (Phich m) = None
order_of (User u) = Some u.order

-- what a turn of an accepted plan needs: its bytes, which `bits` or the sums have, masks, a grid, and a table
pub record TurnReady (p : Plan) (ch : Channel) (have : Option ℕ) (t masks sums bits grid : List ℕ) : Type 0 where
  pub bytes : List ℕ
  pub plan : check_of bytes ≡ accepted p
  pub number : ℕ
  pub turn : TurnOf bytes p number ch
  pub levels : LevelsIn ch (lent_to ch sums bits)
  pub rows : RowMasks p.cell p.frame p.cell.ports true 14 masks
  pub size : length sums ≡ 200
  pub having : Having p.cell.ports have t
  pub room : Room p.cell.ports (places_of p.cell) grid
