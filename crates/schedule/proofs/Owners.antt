-- EACH TURN'S ELEMENTS BELONG TO ITS OWNER, on a port of the grid, and the owner and the symbol give the turn's number, so no element is sent in
-- two turns. Assumes nothing beyond the plan check's answer.
use Prim.Native.Nat.{ℕ, ◌+◌, ◌-◌, ◌/◌, ◌%◌, ◌*◌, ◌≤◌, ◌<◌}
use mathlib.Core.Path.{◌≡◌, refl, sym, ap, ◌∙◌}
use mathlib.Core.Bool.{true}
use mathlib.Core.List.{List}
use native.Mathlib.Nat.{div-lt_iff_lt-mul}
use native.Mathlib.Omega.{arith}
use lib.ListN.{length}
use Rattle.std.specs.declared.result.Result.TheVariants.{Ok as accepted}
use Rattle.plan.specs.Check.{check_of}
use Rattle.plan.specs.CommandLists.{users_of}
use Rattle.plan.specs.declared.Plan.{Plan}
use Rattle.plan.proofs.Valid.{valid}
use Rattle.layout.specs.Rules.{marked}
use Rattle.layout.specs.Owners.{owns}
use Rattle.layout.specs.declared.Mark.TheVariants.{Primary, Secondary}
use Rattle.layout.specs.declared.Owner.{Owner}
use Rattle.layout.specs.declared.Owner.TheVariants.{Crs, Sync, Pbch, Pcfich, Phich, User as UserOf, Held, Idle}
use Rattle.layout.proofs.OneOwner.{one-owner}
use Rattle.places.specs.Places.{symbol_at, carrier_at, places_of, owns_at, index_of}
use Rattle.grid.specs.Writing.{sends, Room}
use Rattle.signals.specs.Signals.{signalled, crs_sends, mark_sends}
use Rattle.signals.proofs.SignalOwners.{port-sends, crs-parts, pss-sends, sss-sends}
use Rattle.schedule.specs.Senders.{active, owner_sends}
use Rattle.schedule.specs.Schedule.{signal_turns, users_first, channel_count, channel_at, TurnOf, owner_of_turn, present_in, elements_of, sends_of, sent_below, all_send}
use Rattle.schedule.specs.declared.Channel.{Channel}
use Rattle.schedule.specs.declared.Channel.TheVariants as channel
use Rattle.schedule.proofs.Some.{and-true, some_is}
use Rattle.schedule.proofs.Numbered.{sends-port, some-places, place_in}
use Rattle.schedule.proofs.Senders.{present-of, pbch-sends, pcfich-sends, unit-sends, user-sends}
use Rattle.schedule.proofs.Turns.{turn-of}

-- the turn of an owner's elements in symbol s
abbrev pub turn_number : Plan → Owner → ℕ → ℕ
turn_number p (Crs q) s = s
turn_number p (Sync Primary) s = signal_turns p.cell
turn_number p (Sync Secondary) s = signal_turns p.cell + 1
turn_number p Pbch s = signal_turns p.cell + 2
turn_number p Pcfich s = signal_turns p.cell + 3
turn_number p (Phich m) s = signal_turns p.cell + 4 + m
turn_number p (UserOf i) s = users_first p + i
turn_number p Held s = channel_count p
turn_number p Idle s = channel_count p

-- the element is at a place of the owner o, on a port of the grid
pub record Of (w : List ℕ) (p : Plan) (o : Owner) (e : ℕ) : Type 0 where
  pub owned : owns_at w p o (e % places_of p.cell) ≡ true
  pub port : e / places_of p.cell < p.cell.ports

-- and that owner's turn there is number n
pub record Belongs (w : List ℕ) (p : Plan) (n : ℕ) (o : Owner) (e : ℕ) : Type 0 where
  pub of : Of w p o e
  pub number : n ≡ turn_number p o (symbol_at p.cell (e % places_of p.cell))

module _ (w : List ℕ) (p : Plan) (ok : check_of w ≡ accepted p) {g : List ℕ} (room : Room p.cell.ports (places_of p.cell) g) where
  abbrev T : ℕ
  T = places_of p.cell

  abbrev P : ℕ
  P = p.cell.ports

  -- ---- theorem A: an element has one owner
  pub same-owner : (a b : Owner) (e : ℕ) → Of w p a e → Of w p b e → a ≡ b
  unfolding owns_at
  same-owner a b e h k =
      let place = place_in w p ok e in
      let one = one-owner w p ok (symbol_at p.cell (e % T)) (carrier_at p.cell (e % T)) place.0 place.1 in
      one.2 a h.owned ∙ sym (one.2 b k.owned)

  pub element-in : (o : Owner) (e : ℕ) → Of w p o e → e < p.cell.ports * places_of p.cell
  element-in o e h = (div-lt_iff_lt-mul (some-places w p ok)).0 h.port

  -- ---- the channels with transmit diversity
  sent-of : (o : Owner) (e port_pair : ℕ) → active w p o (e % T) (e / T) ≡ sends P port_pair (e / T) → owner_sends w p o e ≡ true → Of w p o e
  unfolding owner_sends
  sent-of o e port_pair a h =
      let d = and-true (owns_at w p o (e % T)) (active w p o (e % T) (e / T)) h in
      record { owned = d.0; port = sends-port room port_pair (e / T) (sym a ∙ d.1) }

  pub user-in : (n : ℕ) → users_first p ≤ n → n < channel_count p → n - users_first p < length (users_of w p)
  unfolding channel_count
  user-in n a b = omega (arith, (valid w p ok).users-count)

  -- ---- each channel's elements are its owner's
  module _ (n e : ℕ) where
    crs-belongs : (s : ℕ) → TurnOf w p n (channel.Crs s) → sends_of p (channel.Crs s) e ≡ true → Belongs w p n (Crs (e / T)) e
    unfolding TurnOf sends_of present_in elements_of owns_at
    crs-belongs s t h =
        let y = crs-parts w p s e (and-true (signalled p.cell s) (crs_sends p.cell s e) h).1 in
        let d = port-sends w p (e / T) s e y.0 y.1 y.2 in
        record {
          of = record { owned = ap (λ (x : ℕ). owns w p (Crs (e / T)) x (carrier_at p.cell (e % T))) d.2 ∙ d.0; port = y.0 };
          number = t.1 ∙ sym d.2;
        }

    pss-belongs : TurnOf w p n (channel.Sync Primary) → sends_of p (channel.Sync Primary) e ≡ true → Belongs w p n (Sync Primary) e
    unfolding TurnOf sends_of present_in elements_of owns_at
    pss-belongs t h =
        let y = and-true (marked p.frame) (mark_sends p.cell 1 e) h in
        let d = (pss-sends w p e y.0).0 y.1 in
        record { of = record { owned = d.0; port = omega (arith, d.1, room.some) }; number = t }

    sss-belongs : TurnOf w p n (channel.Sync Secondary) → sends_of p (channel.Sync Secondary) e ≡ true → Belongs w p n (Sync Secondary) e
    unfolding TurnOf sends_of present_in elements_of owns_at
    sss-belongs t h =
        let y = and-true (marked p.frame) (mark_sends p.cell 2 e) h in
        let d = (sss-sends w p e y.0).0 y.1 in
        record { of = record { owned = d.0; port = omega (arith, d.1, room.some) }; number = t }

    pub belongs : (ch : Channel) → TurnOf w p n ch → sends_of p ch e ≡ true → Belongs w p n (owner_of_turn p n ch e) e
    unfolding TurnOf active
    belongs (channel.Crs s) t h = crs-belongs s t h
    belongs (channel.Sync Primary) t h = pss-belongs t h
    belongs (channel.Sync Secondary) t h = sss-belongs t h
    belongs channel.Pbch t h = record { of = sent-of Pbch e (index_of w p Pbch (e % T) / 2 % 2) refl (sym (pbch-sends w p ok (present-of p channel.Pbch e h) e) ∙ h); number = t }
    belongs channel.Pcfich t h = record { of = sent-of Pcfich e (index_of w p Pcfich (e % T) / 2 % 2) refl (sym (pcfich-sends w p ok e) ∙ h); number = t }
    belongs (channel.Phich m) t h =
        record { of = sent-of (Phich m) e ((index_of w p (Phich m) (e % T) / 4 + m) % 2) refl (sym (unit-sends w p ok m e) ∙ h); number = t.1 }
    belongs (channel.User u) t h =
        let i = n - users_first p in
        record {
          of = sent-of (UserOf i) e (index_of w p (UserOf i) (e % T) / 2 % 2) refl (sym (user-sends w p ok i (user-in n t.0 t.1) u t.2 e) ∙ h);
          number = omega (arith, t.0);
        }

  -- ---- the turns
  turn-belongs : (n e : ℕ) → n < channel_count p → sends_of p (channel_at w p n) e ≡ true → Belongs w p n (owner_of_turn p n (channel_at w p n) e) e
  turn-belongs n e l h = belongs n e (channel_at w p n) (turn-of w p n l) h

  -- NO ELEMENT IS SENT IN TWO TURNS
  pub apart : (i j e : ℕ) → i < j → j < channel_count p → sends_of p (channel_at w p i) e ≡ true → sends_of p (channel_at w p j) e ≡ true → ⊥
  apart i j e l m h k =
      let a = turn-belongs i e (omega arith) h in
      let b = turn-belongs j e m k in
      let o = same-owner _ _ e a.of b.of in
      omega (arith, a.number ∙ ap (λ (x : Owner). turn_number p x (symbol_at p.cell (e % T))) o ∙ sym b.number)

  -- every element that a turn sends is one of the grid's
  pub inside : (n e : ℕ) → n < channel_count p → sends_of p (channel_at w p n) e ≡ true → e < p.cell.ports * places_of p.cell
  inside n e l h = element-in _ e (turn-belongs n e l h).of

  pub all_in : (e : ℕ) → all_send w p e ≡ true → e < p.cell.ports * places_of p.cell
  unfolding all_send sent_below
  all_in e h = let i = some_is (λ (n : ℕ). sends_of p (channel_at w p n) e) (channel_count p) h in inside i.0 e i.1 i.2
