-- For the inner contracts and loops only: THE SCHEDULE, the channels of a plan in the order in which they are built, verified and read, each
-- with its turn's number. w is a plan's bytes, p the plan that the plan check answers with. An element's number is port × T + place, T the
-- places on a port. The laws in proofs/ show that no element is sent in two turns (Owners) and that the rest is silent (Covers).
use Rattle.std.specs.Prelude.{if◌then◌else◌, ℕ, zero, suc, ◌+◌, ◌-◌, ◌*◌, ◌/◌, ◌≤◌, ◌<◌, ◌≡◌, Bool, true, ◌&&◌, List, eqb, ltb, take, drop}
use Rattle.base.specs.declared.Element.{Element}
use Rattle.base.specs.Bits.{bit_at}
use Rattle.base.specs.Tables.{table}
use Rattle.gold.specs.declared.Registers.{Registers}
use Rattle.gold.specs.Sequence.{pair_at}
use Rattle.modulation.specs.Symbols.{unit_of}
use Rattle.crs.specs.Crs.{crs_init}
use Rattle.phich.specs.Spreading.{spread_length}
use Rattle.phich.specs.Loops.{QuadSums}
use Rattle.plan.specs.Fields.{mapping_units}
use Rattle.plan.specs.CommandLists.{his_of, nth_user}
use Rattle.plan.specs.Valid.{UserIn}
use Rattle.plan.specs.declared.Cell.{Cell}
use Rattle.plan.specs.declared.Plan.{Plan}
use Rattle.layout.specs.Rules.{slot_of, in_slot, marked}
use Rattle.layout.specs.Owners.{symbols}
use Rattle.layout.specs.declared.Mark.{Mark}
use Rattle.layout.specs.declared.Mark.TheVariants.{Primary, Secondary}
use Rattle.layout.specs.declared.Owner.{Owner}
use Rattle.layout.specs.declared.Owner.TheVariants as owner
use Rattle.counts.specs.Counts.{count_of}
use Rattle.places.specs.Places.{places_of}
use Rattle.payload.specs.Sections.{section_bytes}
use Rattle.payload.specs.Payload.{pbch_bit_count, users_start}
use Rattle.payload.specs.Loops.{computed_bit_count}
use Rattle.subframe.specs.Elements.{pbch_first, control_init, user_init, owner_bit, hi_bit}
use Rattle.areas.specs.Areas.{area_sends, area_element, pbch_area, user_area}
use Rattle.signals.specs.Signals.{signalled, crs_sends, crs_sent, mark_sends, pss_sent, sss_sent}
use Rattle.control.specs.Control.{pcfich_sends, pcfich_sent, phich_sends, phich_sent}
use Rattle.schedule.specs.Senders.{some_below}
use Rattle.schedule.specs.declared.Section.{Section}
use Rattle.schedule.specs.declared.Channel.{Channel}
use Rattle.schedule.specs.declared.Channel.TheVariants.{Crs, Sync, Pbch, Pcfich, Phich, User}

-- ---- THE LIST
-- the turns of the reference signals: one for each symbol, with all ports that send there
abbrev pub signal_turns : Cell → ℕ
signal_turns c = symbols c

-- the turn of the first user, and how many turns there are
abbrev pub users_first : Plan → ℕ
users_first p = signal_turns p.cell + 4 + mapping_units p.cell

unfoldable pub channel_count : Plan → ℕ
channel_count p = users_first p + p.users.count

-- the channels after the reference signals: both marks, PBCH, PCFICH, the PHICH units, the users
unfoldable pub later_at : List ℕ → Plan → ℕ → Channel
later_at w p zero = Sync Primary
later_at w p (suc zero) = Sync Secondary
later_at w p (suc (suc zero)) = Pbch
later_at w p (suc (suc (suc zero))) = Pcfich
later_at w p (suc (suc (suc (suc m)))) = if ltb m (mapping_units p.cell) then Phich m else User (nth_user w p (m - mapping_units p.cell))

-- the channel of turn n
unfoldable pub channel_at : List ℕ → Plan → ℕ → Channel
channel_at w p n =
    if ltb n (signal_turns p.cell) then Crs n else later_at w p (n - signal_turns p.cell)

-- all of them
unfoldable pub channels_of : List ℕ → Plan → List Channel
channels_of w p = table (channel_count p) (channel_at w p)

-- ch is the channel of turn n, said by cases of ch
unfoldable pub TurnOf : List ℕ → Plan → ℕ → Channel → Type 0
TurnOf w p n (Crs s) = (s < symbols p.cell) × (n ≡ s)
TurnOf w p n (Sync Primary) = n ≡ signal_turns p.cell
TurnOf w p n (Sync Secondary) = n ≡ signal_turns p.cell + 1
TurnOf w p n Pbch = n ≡ signal_turns p.cell + 2
TurnOf w p n Pcfich = n ≡ signal_turns p.cell + 3
TurnOf w p n (Phich m) = (m < mapping_units p.cell) × (n ≡ signal_turns p.cell + 4 + m)
TurnOf w p n (User u) = (users_first p ≤ n) × (n < channel_count p) × (u ≡ nth_user w p (n - users_first p))

-- its owner at an element: a reference signal's is that of the element's port, a user is the plan's user of its number
abbrev pub owner_of_turn : Plan → ℕ → Channel → ℕ → Owner
owner_of_turn p n (Crs s) e = owner.Crs (e / places_of p.cell)
owner_of_turn p n (Sync m) e = owner.Sync m
owner_of_turn p n Pbch e = owner.Pbch
owner_of_turn p n Pcfich e = owner.Pcfich
owner_of_turn p n (Phich m) e = owner.Phich m
owner_of_turn p n (User u) e = owner.User (n - users_first p)

-- ---- A CHANNEL'S SEQUENCE
-- its c_init, and the bit of the sequence at which it starts; a mark has no sequence
unfoldable pub init_of : Plan → Channel → ℕ
init_of p (Crs s) =
    crs_init p.cell.prefix p.cell.identity (2 * p.frame.subframe + slot_of p.cell s) (in_slot p.cell s)
init_of p (Sync m) = 0
init_of p Pbch = p.cell.identity
init_of p Pcfich = control_init p.cell p.frame
init_of p (Phich m) = control_init p.cell p.frame
init_of p (User u) = user_init p.cell p.frame u

unfoldable pub first_bit : Plan → Channel → ℕ
first_bit p (Crs s) = 2 * (110 - p.cell.blocks)
first_bit p (Sync m) = 0
first_bit p Pbch = pbch_first p.cell p.frame
first_bit p Pcfich = 0
first_bit p (Phich m) = 0
first_bit p (User u) = 0

-- the pair at its start
abbrev pub start_pair : Plan → Channel → Registers
start_pair p ch = pair_at (init_of p ch) (first_bit p ch)

-- it has a sequence: every channel but the marks
abbrev pub HasSequence : Channel → Type 0
HasSequence (Crs s) = Unit {0}
HasSequence (Sync m) = ⊥
HasSequence Pbch = Unit {0}
HasSequence Pcfich = Unit {0}
HasSequence (Phich m) = Unit {0}
HasSequence (User u) = Unit {0}

-- what its start needs: a channel with a sequence, and parameters of the cell
unfoldable pub Among : Plan → Channel → Type 0
Among p (Crs s) = s < symbols p.cell
Among p (Sync m) = ⊥
Among p Pbch = Unit {0}
Among p Pcfich = Unit {0}
Among p (Phich m) = m < mapping_units p.cell
Among p (User u) = UserIn p.cell u

-- ---- WHAT IT SENDS
-- the subframe has it: a reference signal stands in the symbol, the subframe has marks, "PBCH when f = 0"
unfoldable pub present_in : Plan → Channel → Bool
present_in p (Crs s) = signalled p.cell s
present_in p (Sync m) = marked p.frame
present_in p Pbch = eqb p.frame.subframe 0
present_in p Pcfich = true
present_in p (Phich m) = true
present_in p (User u) = true

-- a mark's symbol, counted from the first slot's end, and what it sends
abbrev pub mark_row : Mark → ℕ
mark_row Primary = 1
mark_row Secondary = 2

abbrev pub mark_sent : Plan → Mark → ℕ → Element
mark_sent p Primary e = pss_sent p.cell e
mark_sent p Secondary e = sss_sent p.cell p.frame e

-- the elements that it sends where the subframe has it, and what it sends there with the pair r, bits its section of the payload; a PHICH
-- unit has the bytes of its quad's sums instead, which are made for all units at once
unfoldable pub elements_of : Plan → Channel → ℕ → Bool
elements_of p (Crs s) e = crs_sends p.cell s e
elements_of p (Sync m) e = mark_sends p.cell (mark_row m) e
elements_of p Pbch e = area_sends (pbch_area p.cell p.frame) e
elements_of p Pcfich e = pcfich_sends p.cell e
elements_of p (Phich m) e = phich_sends p.cell m e
elements_of p (User u) e = area_sends (user_area p.cell p.frame u) e

unfoldable pub sent_of : Plan → List ℕ → Registers → Channel → ℕ → Element
sent_of p bits r (Crs s) e = crs_sent p.cell r e
sent_of p bits r (Sync m) e = mark_sent p m e
sent_of p bits r Pbch e = area_element (pbch_area p.cell p.frame) 2 2 bits r e
sent_of p bits r Pcfich e = pcfich_sent p.cell p.frame.cfi r e
sent_of p bits r (Phich m) e = phich_sent p.cell m r bits e
sent_of p bits r (User u) e = area_element (user_area p.cell p.frame u) u.order (unit_of u.order) bits r e

-- the elements that it sends in this subframe
unfoldable pub sends_of : Plan → Channel → ℕ → Bool
sends_of p ch e = present_in p ch && elements_of p ch e

-- those of the turns below n, and of all turns
unfoldable pub sent_below : List ℕ → Plan → ℕ → ℕ → Bool
sent_below w p n e = some_below (λ (i : ℕ). sends_of p (channel_at w p i) e) n

unfoldable pub all_send : List ℕ → Plan → ℕ → Bool
all_send w p e = sent_below w p (channel_count p) e

-- ---- ITS SECTION of the payload, none for a channel without bits; `start` is where the next user's section starts. The units share that of
-- the HIs
unfoldable pub section_of : Plan → ℕ → Channel → Section
section_of p start (Crs s) = record { start = 0; end = 0 }
section_of p start (Sync m) = record { start = 0; end = 0 }
section_of p start Pbch = record { start = 0; end = section_bytes (pbch_bit_count p.cell p.frame) }
section_of p start Pcfich = record { start = 0; end = 0 }
section_of p start (Phich m) = record { start = section_bytes (pbch_bit_count p.cell p.frame); end = users_start p }
section_of p start (User u) = record { start = start; end = start + section_bytes (computed_bit_count p.cell p.frame u) }

-- the sums s of all units' quads are made of the payload's HIs
pub record SumsOf (w : List ℕ) (p : Plan) (payload s : List ℕ) : Type 0 where
  pub bit : ℕ → ℕ
  pub sums : QuadSums (spread_length p.cell) bit (his_of w p) s
  pub same : (n : ℕ) → n < p.his.count → bit n ≡ hi_bit w p payload n

-- the bytes `bits` are what turn n is to send of the payload: its owner's bits, or the unit's sums
unfoldable pub BitsOf : List ℕ → Plan → List ℕ → ℕ → List ℕ → Channel → Type 0
BitsOf w p payload n bits (Crs s) = Unit {0}
BitsOf w p payload n bits (Sync m) = Unit {0}
BitsOf w p payload n bits Pbch = (k : ℕ) → k < 2 * count_of w p owner.Pbch → bit_at bits k ≡ owner_bit w p payload owner.Pbch k
BitsOf w p payload n bits Pcfich = Unit {0}
BitsOf w p payload n bits (Phich m) = (s : List ℕ) × SumsOf w p payload s × (bits ≡ take 8 (drop (8 * m) s))
BitsOf w p payload n bits (User u) =
    (k : ℕ) → k < u.order * count_of w p (owner.User (n - users_first p)) → bit_at bits k ≡ owner_bit w p payload (owner.User (n - users_first p)) k

-- a section's part of the payload, and what is lent to a channel: its part of the payload, or its part of the sums
abbrev pub part_of : Section → List ℕ → List ℕ
part_of x payload = take (x.end - x.start) (drop x.start payload)

unfoldable pub lent_to : Channel → List ℕ → List ℕ → List ℕ
lent_to (Crs s) sums bits = bits
lent_to (Sync m) sums bits = bits
lent_to Pbch sums bits = bits
lent_to Pcfich sums bits = bits
lent_to (Phich m) sums bits = take 8 (drop (8 * m) sums)
lent_to (User u) sums bits = bits
