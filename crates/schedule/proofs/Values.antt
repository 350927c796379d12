-- WHAT EACH TURN SENDS is the subframe's, with its section's bits or the sums of its unit; and the section of each turn has these bits. Assumes
-- nothing beyond the plan check's answer.
use Prim.Native.Nat.{ℕ, ◌+◌, ◌-◌, ◌*◌, ◌≤◌, ◌<◌}
use mathlib.Core.Path.{◌≡◌, refl, sym, subst}
use mathlib.Core.Bool.{true}
use mathlib.Core.List.{List}
use native.Mathlib.Omega.{arith}
use borrow.Author.Tests.{eqb-true}
use lib.ListN.{take, drop}
use Rattle.std.specs.declared.result.Result.TheVariants.{Ok as accepted}
use Rattle.base.specs.Bits.{bit_at}
use Rattle.phich.specs.Spreading.{spread_length}
use Rattle.phich.specs.Loops.{QuadSums}
use Rattle.plan.specs.Check.{check_of}
use Rattle.plan.specs.CommandLists.{his_of}
use Rattle.plan.specs.declared.Plan.{Plan}
use Rattle.plan.specs.declared.User.{User}
use Rattle.layout.specs.declared.Mark.TheVariants.{Primary, Secondary}
use Rattle.layout.specs.declared.Owner.TheVariants as owner
use Rattle.counts.specs.Counts.{count_of}
use Rattle.places.specs.Places.{places_of}
use Rattle.grid.specs.Writing.{Room}
use Rattle.payload.specs.Sections.{section_bytes}
use Rattle.payload.specs.Payload.{pbch_bit_count, user_bit_count, payload_length, users_start}
use Rattle.payload.specs.Loops.{computed_bit_count}
use Rattle.subframe.specs.Elements.{owner_bit}
use Rattle.subframe.specs.Grid.{element_numbered}
use Rattle.schedule.specs.Schedule.{users_first, TurnOf, init_of, first_bit, start_pair, present_in, elements_of, sends_of, sent_of, section_of, SumsOf, BitsOf, part_of, lent_to}
use Rattle.schedule.specs.Cursor.{TurnIn}
use Rattle.schedule.specs.declared.Turn.{Turn}
use Rattle.schedule.specs.declared.Channel.{Channel}
use Rattle.schedule.specs.declared.Channel.TheVariants.{Crs, Sync, Pbch, Pcfich, Phich, User as UserOf}
use Rattle.schedule.proofs.Some.{and-true}
use Rattle.schedule.proofs.SignalValues.{crs-numbered, pss-numbered, sss-numbered}
use Rattle.schedule.proofs.ControlValues.{pcfich-numbered, phich-numbered}
use Rattle.schedule.proofs.DataValues.{pbch-value, user-value}
use Rattle.schedule.proofs.Slices.{user-slice, pbch-slice, hi-slice, heads-room, section-end, start-next, start-room}
use Rattle.schedule.proofs.Owners.{user-in}

module _ (w : List ℕ) (p : Plan) (ok : check_of w ≡ accepted p) (payload : List ℕ) {g : List ℕ} (room : Room p.cell.ports (places_of p.cell) g) where
  -- ---- the values
  module _ (n : ℕ) (bits : List ℕ) (e : ℕ) where
    user-sent :
        (u : User) → TurnOf w p n (UserOf u) → BitsOf w p payload n bits (UserOf u) → elements_of p (UserOf u) e ≡ true
        → sent_of p bits (start_pair p (UserOf u)) (UserOf u) e ≡ element_numbered w p payload e
    unfolding TurnOf BitsOf elements_of sent_of init_of first_bit
    user-sent u t b h =
        let i = n - users_first p in
        subst
        (λ (v : User).
        ((k : ℕ) → k < v.order * count_of w p (owner.User i) → bit_at bits k ≡ owner_bit w p payload (owner.User i) k) → elements_of p (UserOf v) e ≡ true
        → sent_of p bits (start_pair p (UserOf v)) (UserOf v) e ≡ element_numbered w p payload e)
        (sym t.2) (λ same k. user-value w p ok payload bits room i (user-in w p ok room n t.0 t.1) same e k) b h

    pub value :
        (ch : Channel) → TurnOf w p n ch → BitsOf w p payload n bits ch → sends_of p ch e ≡ true
        → sent_of p bits (start_pair p ch) ch e ≡ element_numbered w p payload e
    unfolding TurnOf BitsOf sends_of present_in elements_of sent_of init_of first_bit
    value (Crs s) t b h = crs-numbered w p ok payload s e (and-true (present_in p (Crs s)) (elements_of p (Crs s) e) h).1
    value (Sync Primary) t b h = let d = and-true (present_in p (Sync Primary)) (elements_of p (Sync Primary) e) h in pss-numbered w p ok payload d.0 e d.1
    value (Sync Secondary) t b h = let d = and-true (present_in p (Sync Secondary)) (elements_of p (Sync Secondary) e) h in sss-numbered w p ok payload d.0 e d.1
    value Pbch t b h =
        let d = and-true (present_in p Pbch) (elements_of p Pbch e) h in
        pbch-value w p ok payload bits room (eqb-true p.frame.subframe 0 d.0) b e d.1
    value Pcfich t b h = pcfich-numbered w p ok payload room e h
    value (Phich m) t b h = rw b.2 (phich-numbered w p ok payload room m t.0 b.1.sums b.1.same e h)
    value (UserOf u) t b h = user-sent u t b h

  -- ---- the sections
  -- the sums of all units, made of the HIs' section
  pub sums-of :
      {l : ℕ} {s : List ℕ} → l ≡ spread_length p.cell → (start end : ℕ) → start ≡ section_bytes (pbch_bit_count p.cell p.frame) → end ≡ users_start p
      → QuadSums l (bit_at (take (end - start) (drop start payload))) (his_of w p) s → SumsOf w p payload s
  sums-of el start end es ee q = record { bit = bit_at (take (end - start) (drop start payload)); sums = rw (← el) q; same = hi-slice w p ok payload start end es ee }

  module _ (t : Turn) (so : TurnIn w p t) where
    abbrev i : ℕ
    i = t.number - users_first p

    user-ends :
        (u : User) → TurnOf w p t.number (UserOf u)
        → t.start + section_bytes (computed_bit_count p.cell p.frame u) ≡ t.start + section_bytes (user_bit_count w p (t.number - users_first p))
    unfolding TurnOf
    user-ends u y =
        section-end w p ok payload i (user-in w p ok room t.number y.0 y.1) u t.start (t.start + section_bytes (computed_bit_count p.cell p.frame u)) y.2 refl

    -- a turn's section lies in the payload
    pub section-room : (ch : Channel) → TurnOf w p t.number ch → ((section_of p t.start ch).start ≤ (section_of p t.start ch).end) × ((section_of p t.start ch).end ≤ payload_length w p)
    unfolding section_of TurnOf
    section-room (Crs s) y = (omega arith, omega arith)
    section-room (Sync m) y = (omega arith, omega arith)
    section-room Pbch y = (omega arith, (let h = heads-room w p ok payload _ (users_start p) refl refl in omega (arith, h.0, h.1)))
    section-room Pcfich y = (omega arith, omega arith)
    section-room (Phich m) y = heads-room w p ok payload _ (users_start p) refl refl
    section-room (UserOf u) y =
        (omega arith, omega (arith, user-ends u y, so.section, start-next w p ok payload i (user-in w p ok room t.number y.0 y.1), start-room w p ok payload (i + 1)))

    -- and what is lent to its channel is what it is to send
    pub bits_of :
        {s : List ℕ} → SumsOf w p payload s → (ch : Channel) → TurnOf w p t.number ch
        → BitsOf w p payload t.number (lent_to ch s (part_of (section_of p t.start ch) payload)) ch
    unfolding section_of TurnOf BitsOf lent_to
    bits_of sums (Crs s) y = tt
    bits_of sums (Sync m) y = tt
    bits_of sums Pbch y = pbch-slice w p ok payload _ refl
    bits_of sums Pcfich y = tt
    bits_of {s} sums (Phich m) y = (s, sums, refl)
    bits_of sums (UserOf u) y = λ k l.
        user-slice w p ok payload i (user-in w p ok room t.number y.0 y.1) t.start _ so.section (user-ends u y) k
        (subst (λ (v : User). k < v.order * count_of w p (owner.User i)) y.2 l)
