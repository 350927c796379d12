-- For the inner contracts and loops only: the cursor over the schedule. It has the number of the turn, the position of the next user's command
-- in the plan, and the byte of the payload at which the next user's section starts.
use Rattle.std.specs.Prelude.{ℕ, ◌+◌, ◌-◌, ◌≤◌, ◌<◌, ◌≡◌, List, length, drop, Ok as accepted}
use Rattle.plan.specs.Check.{check_of}
use Rattle.plan.specs.CommandLists.{users_from, users_of}
use Rattle.plan.specs.declared.Plan.{Plan}
use Rattle.payload.specs.Sections.{start_of}
use Rattle.payload.specs.Payload.{heads, sections, users_start}
use Rattle.schedule.specs.Schedule.{signal_turns, users_first, channel_count, channel_at, section_of}
use Rattle.schedule.specs.declared.Channel.{Channel}
use Rattle.schedule.specs.declared.Turn.{Turn}

-- the users from number i on stand from position `at` of the plan on
abbrev pub From : List ℕ → Plan → ℕ → ℕ → Type 0
From w p at i = users_from (drop at w) (p.users.count - i) ≡ drop i (users_of w p)

-- how many users come before turn n
abbrev pub users_before : Plan → ℕ → ℕ
users_before p n = n - users_first p

-- the cursor stands at its number
pub record TurnIn (w : List ℕ) (p : Plan) (t : Turn) : Type 0 where
  pub most : t.number ≤ channel_count p
  pub users : From w p t.at (users_before p t.number)
  pub section : t.start ≡ start_of (sections w p) (length (heads p) + users_before p t.number)

-- and there is a turn of an accepted plan
pub record Due (w : List ℕ) (p : Plan) (t : Turn) : Type 0 where
  pub answer : check_of w ≡ accepted p
  pub turn : TurnIn w p t
  pub more : t.number < channel_count p

-- its channel is ch, and the channel's section ends at byte `end`
pub record Passing (w : List ℕ) (p : Plan) (t : Turn) (ch : Channel) (end : ℕ) : Type 0 where
  pub due : Due w p t
  pub is : ch ≡ channel_at w p t.number
  pub ends : end ≡ (section_of p t.start ch).end

-- r is the turn after it, in every plan in which it is due
pub record Follows (w : List ℕ) (t : Turn) (ch : Channel) (end : ℕ) (r : Turn) : Type 0 where
  pub number : r.number ≡ t.number + 1
  pub turn : (p : Plan) → Passing w p t ch end → TurnIn w p r

-- the first turn
unfoldable pub first_turn : Plan → Turn
first_turn p = record { number = 0; at = p.users.at; start = users_start p }

-- and the first one after the reference signals
unfoldable pub later_turn : Plan → Turn
later_turn p = record { number = signal_turns p.cell; at = p.users.at; start = users_start p }
