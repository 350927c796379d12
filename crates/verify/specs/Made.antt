-- For the inner contracts and loops only: whether a grid is the one that the payload read from it makes. w is a plan's bytes, p the plan
-- that the plan check answers with, g a grid.
use Rattle.std.specs.Prelude.{ℕ, ◌≡◌, Bool, true, false, List, [], Option, Ok as accepted}
use Rattle.base.specs.declared.Element.{Element}
use Rattle.gold.specs.declared.Registers.{Registers}
use Rattle.modulation.specs.Symbols.{unit_of}
use Rattle.plan.specs.Check.{check_of}
use Rattle.plan.specs.declared.Plan.{Plan}
use Rattle.places.specs.Places.{places_of}
use Rattle.grid.specs.Writing.{Room}
use Rattle.compare.specs.Comparing.{Compared}
use Rattle.areas.specs.Areas.{pbch_area, user_area}
use Rattle.areas.specs.Tables.{RowMasks}
use Rattle.data_compare.specs.Symbols.{AreaCompared}
use Rattle.subframe.specs.Grid.{element_numbered, grid_of}
use Rattle.recovery.specs.Recovery.{payload_in}
use Rattle.schedule.specs.declared.Channel.{Channel}
use Rattle.schedule.specs.declared.Channel.TheVariants.{Crs, Sync, Pbch, Pcfich, Phich, User}
use Rattle.schedule.specs.Schedule.{TurnOf, start_pair, present_in, elements_of, sent_of, SumsOf, lent_to}

-- the elements that are due: those of the payload that the grid itself gives
abbrev pub element_due : List ℕ → Plan → List ℕ → ℕ → Element
element_due w p g = element_numbered w p (payload_in w p g)

-- an accepted plan and a grid of its length
pub record Given (w : List ℕ) (p : Plan) (g : List ℕ) : Type 0 where
  pub answer : check_of w ≡ accepted p
  pub room : Room p.cell.ports (places_of p.cell) g

-- ch has a turn in the plan, and the subframe has it
pub record Planned (w : List ℕ) (p : Plan) (g : List ℕ) (ch : Channel) : Type 0 where
  pub given : Given w p g
  pub number : ℕ
  pub turn : TurnOf w p number ch
  pub present : present_in p ch ≡ true

-- what channels share: the pair at the start of PCFICH's and PHICH's bits, the sums of all units that the bits in the grid make, the masks of
-- the users' rows
pub record Shared (w : List ℕ) (p : Plan) (g : List ℕ) (control : Registers) (sums masks : List ℕ) : Type 0 where
  pub start : control ≡ start_pair p Pcfich
  pub units : SumsOf w p (payload_in w p g) sums
  pub rows : RowMasks p.cell p.frame p.cell.ports true 14 masks

-- what the comparison of a channel answers: with what it sends, or, for PBCH and a user, with the symbols that stand in the grid
abbrev pub SentSeen : Plan → Channel → List ℕ → List ℕ → Option ℕ → Type 0
SentSeen p ch sums g r = Compared (elements_of p ch) (sent_of p (lent_to ch sums []) (start_pair p ch) ch) g r

unfoldable pub ChannelSeen : Plan → Channel → List ℕ → List ℕ → Option ℕ → Type 0
ChannelSeen p (Crs s) sums g r = SentSeen p (Crs s) sums g r
ChannelSeen p (Sync m) sums g r = SentSeen p (Sync m) sums g r
ChannelSeen p Pbch sums g r = AreaCompared (pbch_area p.cell p.frame) 2 2 g r
ChannelSeen p Pcfich sums g r = SentSeen p Pcfich sums g r
ChannelSeen p (Phich m) sums g r = SentSeen p (Phich m) sums g r
ChannelSeen p (User u) sums g r = AreaCompared (user_area p.cell p.frame u) u.order (unit_of u.order) g r

-- the answer
pub record Made (w : List ℕ) (p : Plan) (g : List ℕ) (r : Bool) : Type 0 where
  pub made : r ≡ true → grid_of w p (payload_in w p g) ≡ g
  pub not_made : r ≡ false → grid_of w p (payload_in w p g) ≡ g → ⊥
