-- EACH CHANNEL COMPARED: what its comparison needs, and that its answer is that of the elements that the payload in the grid is due; then
-- turn after turn. Assumes nothing beyond the plan check's answer.
use Prim.Native.Nat.{ℕ, ◌+◌, ◌-◌, ◌*◌, ◌%◌, ◌≤◌, ◌<◌}
use mathlib.Core.Path.{◌≡◌, refl, sym, ap, subst, ◌∙◌}
use mathlib.Core.Bool.{true, false}
use mathlib.Core.List.{List, []}
use native.Mathlib.Omega.{arith}
use borrow.Author.Tests.{eqb-true}
use lib.ListN.{length, take, drop}
use Rattle.gold.specs.declared.Registers.{Registers}
use Rattle.modulation.specs.Symbols.{Order, unit_of}
use Rattle.modulation.proofs.Orders.{unit-some}
use Rattle.phich.specs.Spreading.{spread_length}
use Rattle.phich.specs.Loops.{QuadSums}
use Rattle.phich.proofs.Scrambled.{part-is}
use Rattle.plan.specs.Check.{check_of}
use Rattle.plan.specs.Fields.{mapping_units}
use Rattle.plan.specs.CommandLists.{his_from, his_of, users_of, nth_user}
use Rattle.plan.specs.Valid.{CellIn, FrameIn}
use Rattle.plan.specs.declared.User.{User}
use Rattle.plan.specs.declared.Plan.{Plan}
use Rattle.plan.proofs.Counts.{blocks-least, units-most, users-most}
use Rattle.plan.proofs.Valid.{valid}
use Rattle.counts.specs.Shape.{shape_of}
use Rattle.counts.specs.declared.Shape.{Shape}
use Rattle.layout.specs.declared.Mark.TheVariants.{Primary, Secondary}
use Rattle.std.specs.Prelude.{Option, Some, None, Ok as accepted}
use Rattle.compare.specs.Comparing.{Compared, both_of, Few}
use Rattle.compare.proofs.Accumulating.{also, comparing}
use Rattle.compare.proofs.Comparing.{none, same, few}
use Rattle.subframe.proofs.OwnerBits.{user-order}
use Rattle.recovery.specs.Recovery.{payload_in}
use Rattle.recovery.proofs.Payload.{hi-bit}
use Rattle.areas.specs.declared.Area.{Area}
use Rattle.areas.specs.Areas.{area_count, pbch_area, user_area, AreaIn}
use Rattle.areas.specs.Tables.{RowMasks}
use Rattle.areas.proofs.AreaOwners as areas
use Rattle.data_compare.specs.Symbols.{AreaCompared, CompareIn}
use Rattle.signals.specs.Signals.{signalled, crs_sends, crs_sent, mark_sends, pss_sent, sss_sent}
use Rattle.signals.specs.Rows.{MarkIn, SymbolIn}
use Rattle.control.specs.Control.{pcfich_sends, pcfich_sent, phich_sends, phich_sent}
use Rattle.control.specs.Filling.{PcfichIn, PhichIn}
use Rattle.control_read.specs.Reading.{HisRead, ack_from}
use Rattle.control.proofs.ControlOwners.{pcfich-in, phich-in, part-levels}
use Rattle.control_read.proofs.ReadingOwners.{acks-are, his-read}
use Rattle.schedule.specs.declared.Channel.{Channel}
use Rattle.schedule.specs.declared.Channel.TheVariants.{Crs, Sync, Pbch, Pcfich, Phich, User as UserOf}
use Rattle.schedule.specs.Schedule.{
  users_first,
  channel_count,
  channel_at,
  TurnOf,
  init_of,
  first_bit,
  start_pair,
  Among,
  present_in,
  elements_of,
  sends_of,
  sent_of,
  sent_below,
  all_send,
  SumsOf,
  BitsOf,
  lent_to,
}
use Rattle.schedule.specs.Cursor.{TurnIn, Due, first_turn}
use Rattle.schedule.specs.declared.Turn.{Turn}
use Rattle.schedule.proofs.Turns.{turn-of, begins, first-in}
use Rattle.schedule.proofs.Senders.{present-sends, absent-sends, pbch-sends, user-sends}
use Rattle.schedule.proofs.Owners.{user-in}
use Rattle.schedule.proofs.Values.{value}
use Rattle.schedule.proofs.TurnByTurn.{turn-none, turn_more, turn-all}
use Rattle.verify.specs.Made.{element_due, Given, Planned, Shared, SentSeen, ChannelSeen}
use Rattle.verify.proofs.Areas.{pbch-seen, user-seen}
use Rattle.verify.proofs.Known.{pbch-even, user-even}

-- ---- WHAT A COMPARISON NEEDS, by channel
module _ {w : List ℕ} {p : Plan} {g : List ℕ} where
  module _ {ch : Channel} (k : Planned w p g ch) where
    ok : check_of w ≡ accepted p
    ok = k.given.answer

    cell_in : CellIn p.cell
    cell_in = (valid w p ok).cell

    turn-as : {c : Channel} → ch ≡ c → TurnOf w p k.number c
    turn-as e = subst (TurnOf w p k.number) e k.turn

    pub crs-starts : {s : ℕ} → ch ≡ Crs s → CellIn p.cell × FrameIn p.frame × Among p (Crs s)
    crs-starts {s} e = begins w p ok k.number (Crs s) tt (turn-as e)

    pub crs-ready : {s y : ℕ} → ch ≡ Crs s → y ≡ s → SymbolIn p.cell y g
    unfolding TurnOf present_in
    crs-ready e ey =
        let y = subst (λ (c : Channel). present_in p c ≡ true) e k.present in
        record { cell = cell_in; symbol = rw ey (turn-as e).0; signal = ap (signalled p.cell) ey ∙ y; room = k.given.room }

    pub mark-ready : MarkIn p.cell g
    mark-ready = record { cell = cell_in; room = k.given.room }

    pub pcfich-ready : PcfichIn p.cell p.frame.cfi g
    pcfich-ready = pcfich-in w p ok k.given.room

    module _ {r : Registers} {s masks : List ℕ} (h : Shared w p g r s masks) where
      -- a unit, with its part of the sums
      module _ {m y : ℕ} (e : ch ≡ Phich m) (ey : y ≡ m) where
        in-m : m < mapping_units p.cell
        unfolding TurnOf
        in-m = (turn-as e).0

        pub unit-few : y < 25
        unit-few = omega (arith, in-m, units-most p.cell cell_in)

        pub unit-ready : PhichIn p.cell y (take (8 * y + 8 - 8 * y) (drop (8 * y) s)) g
        unit-ready = rw (ey, part-is m s) (phich-in w p ok m in-m k.given.room (part-levels w p ok h.units.sums m in-m))

      -- a user, with the masks of the users' rows
      module _ {u : User} (e : ch ≡ UserOf u) where
        abbrev i : ℕ
        i = k.number - users_first p

        in-i : k.number - users_first p < length (users_of w p)
        unfolding TurnOf
        in-i = let t = turn-as e in user-in w p ok k.given.room k.number t.0 t.1

        user-is : u ≡ nth_user w p (k.number - users_first p)
        unfolding TurnOf
        user-is = (turn-as e).2

        order-in : Order u.order
        order-in = subst (λ (v : User). Order v.order) (sym user-is) (user-order w p ok i in-i)

        area_in : AreaIn (user_area p.cell p.frame u) u.order g
        unfolding nth_user
        area_in =
            let d : User = record { rnti = 0; order = 0; first = 0; count = 0 } in
            subst (λ (v : User). AreaIn (user_area p.cell p.frame v) u.order g) (sym user-is)
            (areas.user-in w p ok u.order g order-in k.given.room i in-i d)

        pub user-ready : {a : Area} {unit : ℕ} → a ≡ user_area p.cell p.frame u → unit ≡ unit_of u.order → CompareIn a u.order unit masks g
        user-ready ea eu =
            rw (ea, eu)
            (record {
              area = area_in;
              some = unit-some u.order order-in;
              pairs = λ n. ap (λ (v : User). area_count (user_area p.cell p.frame v) % 2) user-is ∙ user-even w p g k.given i in-i n;
              signals = λ many. (many, k.given.room.not_three);
              bytes = h.rows;
            })

  -- PBCH
  module _ (k : Planned w p g Pbch) where
    pub pbch-blocks : 6 ≤ p.cell.blocks
    pbch-blocks = blocks-least p.cell (cell_in k)

    zero-th : p.frame.subframe ≡ 0
    unfolding present_in
    zero-th = eqb-true p.frame.subframe 0 k.present

    pub pbch-ready :
        {a : Area} {masks : List ℕ} → a ≡ pbch_area p.cell p.frame → RowMasks a.cell a.frame a.signals a.leaves 14 masks → CompareIn a 2 2 masks g
    pbch-ready {a} {masks} ea m =
        subst (λ (b : Area). CompareIn b 2 2 masks g) (sym ea)
        (record {
          area = areas.pbch-in w p (ok k) 2 g (omega arith) k.given.room;
          some = omega arith;
          pairs = pbch-even w p g k.given zero-th;
          signals = λ many. (omega arith, λ e. omega arith);
          bytes = subst (λ (b : Area). RowMasks b.cell b.frame b.signals b.leaves 14 masks) ea m;
        })

-- ---- WHAT IT ANSWERS, by channel
module _ (p : Plan) {ch : Channel} (sums g : List ℕ) (x : Option ℕ) where
  pub crs-answer :
      {s y : ℕ} {r : Registers} → ch ≡ Crs s → y ≡ s → r ≡ start_pair p (Crs s) → Compared (crs_sends p.cell y) (crs_sent p.cell r) g x → ChannelSeen p ch sums g x
  unfolding ChannelSeen elements_of sent_of
  crs-answer e ey er c = rw e (rw (ey, er) at c)

  pub pss-answer : ch ≡ Sync Primary → Compared (mark_sends p.cell 1) (pss_sent p.cell) g x → ChannelSeen p ch sums g x
  unfolding ChannelSeen elements_of sent_of
  pss-answer e c = rw e c

  pub sss-answer : ch ≡ Sync Secondary → Compared (mark_sends p.cell 2) (sss_sent p.cell p.frame) g x → ChannelSeen p ch sums g x
  unfolding ChannelSeen elements_of sent_of
  sss-answer e c = rw e c

  pub pbch-answer : ch ≡ Pbch → AreaCompared (pbch_area p.cell p.frame) 2 2 g x → ChannelSeen p ch sums g x
  unfolding ChannelSeen
  pbch-answer e c = rw e c

  pub pcfich-answer :
      {r : Registers} → ch ≡ Pcfich → r ≡ start_pair p Pcfich → Compared (pcfich_sends p.cell) (pcfich_sent p.cell p.frame.cfi r) g x → ChannelSeen p ch sums g x
  unfolding ChannelSeen elements_of sent_of
  pcfich-answer e er c = rw e (rw er at c)

  pub unit-answer :
      {m y : ℕ} {r : Registers} → ch ≡ Phich m → y ≡ m → r ≡ start_pair p Pcfich
      → Compared (phich_sends p.cell y) (phich_sent p.cell y r (take (8 * y + 8 - 8 * y) (drop (8 * y) sums))) g x → ChannelSeen p ch sums g x
  unfolding ChannelSeen elements_of sent_of lent_to init_of first_bit
  unit-answer {m} e ey er c = rw e (rw (ey, er, part-is m sums) at c)

  pub user-answer :
      {u : User} {a : Area} {unit : ℕ} → ch ≡ UserOf u → a ≡ user_area p.cell p.frame u → unit ≡ unit_of u.order → AreaCompared a u.order unit g x → ChannelSeen p ch sums g x
  unfolding ChannelSeen
  user-answer e ea eu c = rw e (rw (ea, eu) at c)

-- ---- WHAT CHANNELS SHARE
module _ (w : List ℕ) (p : Plan) {g : List ℕ} (given : Given w p g) where
  pub control-starts : CellIn p.cell × FrameIn p.frame × Among p Pcfich
  unfolding Among
  control-starts = ((valid w p given.answer).cell, (valid w p given.answer).frame, tt)

  pub units-read : HisRead p.cell p.his w g
  units-read = his-read w p given.answer given.room

  pub count-ready : CellIn p.cell × (p.users.count ≤ 100)
  count-ready = ((valid w p given.answer).cell, users-most w p given.answer)

  -- THE SUMS of all units, made from the bits that the grid gives, are those of the payload in it
  pub sums-due :
      {r : Registers} {s : List ℕ} → r ≡ start_pair p Pcfich
      → QuadSums (spread_length p.cell) (ack_from p.cell r (his_from (drop p.his.at w) p.his.count) g) (his_from (drop p.his.at w) p.his.count) s
      → SumsOf w p (payload_in w p g) s
  unfolding his_of init_of first_bit
  sums-due {r} er q =
      record {
        bit = ack_from p.cell r (his_of w p) g;
        sums = q;
        same = λ n l. ap (λ (z : Registers). ack_from p.cell z (his_of w p) g n) er ∙ acks-are w p g n ∙ sym (hi-bit w p g n l);
      }

  -- ---- A CHANNEL'S ANSWER is that of the elements that are due
  module _ {sums : List ℕ} (units : SumsOf w p (payload_in w p g) sums) (n : ℕ) {x : Option ℕ} where
    sent-due :
        (ch : Channel) → TurnOf w p n ch → present_in p ch ≡ true → BitsOf w p (payload_in w p g) n (lent_to ch sums []) ch → SentSeen p ch sums g x
        → Compared (sends_of p ch) (element_due w p g) g x
    sent-due ch t h b c =
        same (λ e. sym (present-sends p ch h e))
        (λ e k. value w p given.answer (payload_in w p g) given.room n (lent_to ch sums []) e ch t b (present-sends p ch h e ∙ k)) c

    user-due : (u : User) → TurnOf w p n (UserOf u) → ChannelSeen p (UserOf u) sums g x → Compared (sends_of p (UserOf u)) (element_due w p g) g x
    unfolding TurnOf ChannelSeen
    user-due u t c =
        let i = n - users_first p in
        let l = user-in w p given.answer given.room n t.0 t.1 in
        same (λ e. sym (user-sends w p given.answer i l u t.2 e)) (λ e k. refl)
        (user-seen w p given.answer g given.room i l x
        (subst (λ (v : User). AreaCompared (user_area p.cell p.frame v) v.order (unit_of v.order) g x) t.2 c))

    pub channel-due : (ch : Channel) → TurnOf w p n ch → present_in p ch ≡ true → ChannelSeen p ch sums g x → Compared (sends_of p ch) (element_due w p g) g x
    unfolding ChannelSeen BitsOf lent_to present_in
    channel-due (Crs s) t h c = sent-due (Crs s) t h tt c
    channel-due (Sync m) t h c = sent-due (Sync m) t h tt c
    channel-due Pbch t h c =
        same (λ e. sym (pbch-sends w p given.answer h e)) (λ e k. refl) (pbch-seen w p given.answer g given.room (eqb-true p.frame.subframe 0 h) x c)
    channel-due Pcfich t h c = sent-due Pcfich t h tt c
    channel-due (Phich m) t h c = sent-due (Phich m) t h (sums, units, refl) c
    channel-due (UserOf u) t h c = user-due u t c

-- ---- TURN AFTER TURN
both-none : (x : Option ℕ) → x ≡ both_of x (Some 0)
both-none (Some n) = let e : n ≡ n + 0 = omega arith in ap Some e
both-none None = refl

-- what channels share is made, the cursor stands at t, and the turns before are compared
pub record Going (w : List ℕ) (p : Plan) (g : List ℕ) (r : Registers) (sums masks : List ℕ) (shape : Shape) (count : ℕ) (t : Turn) (x : Option ℕ) : Type 0 where
  pub given : Given w p g
  pub shared : Shared w p g r sums masks
  pub shape_is : shape ≡ shape_of p.cell p.frame
  pub count-is : count ≡ channel_count p
  pub turn : TurnIn w p t
  pub compared : Compared (sent_below w p t.number) (element_due w p g) g x

module _ (w : List ℕ) (p : Plan) {g : List ℕ} (given : Given w p g) {r : Registers} {sums masks : List ℕ} {shape : Shape} {count : ℕ} {t : Turn} where
  pub going-first :
      r ≡ start_pair p Pcfich → SumsOf w p (payload_in w p g) sums → RowMasks p.cell p.frame p.cell.ports true 14 masks
      → shape ≡ shape_of p.cell p.frame → count ≡ channel_count p → t ≡ first_turn p → Going w p g r sums masks shape count t (Some 0)
  unfolding first_turn
  going-first er units rows es ec et =
      record {
        given = given;
        shared = record { start = er; units = units; rows = rows };
        shape_is = es;
        count-is = ec;
        turn = rw et (first-in w p);
        compared = rw et (turn-none (comparing g) (element_due w p g) w p);
      }

module _ {w : List ℕ} {p : Plan} {g : List ℕ} {r : Registers} {sums masks : List ℕ} {shape : Shape} {count : ℕ} {t : Turn} {x : Option ℕ}
    (so : Going w p g r sums masks shape count t x) where
  module _ (more : t.number < count) where
    less : t.number < channel_count p
    less = omega (arith, so.count-is)

    pub due : Due w p t
    due = record { answer = so.given.answer; turn = so.turn; more = less }

    module _ {ch : Channel} (is : ch ≡ channel_at w p t.number) where
      turn_is : TurnOf w p t.number ch
      turn_is = subst (TurnOf w p t.number) (sym is) (turn-of w p t.number less)

      pub planned : present_in p ch ≡ true → Planned w p g ch
      planned h = record { given = so.given; number = t.number; turn = turn_is; present = h }

      -- its comparison
      module _ (h : present_in p ch ≡ true) (s : Option ℕ) (c : ChannelSeen p ch sums g s) where
        channel-compared : Compared (sends_of p ch) (element_due w p g) g s
        channel-compared = channel-due w p so.given so.shared.units t.number ch turn_is h c

        pub few-both : Few x × Few s
        few-both = (few so.given.room so.compared, few so.given.room channel-compared)

      -- the next turn
      module _ (n : Turn) (en : TurnIn w p n × (n.number ≡ t.number + 1)) where
        step : {y : Option ℕ} (s : Option ℕ) → y ≡ both_of x s → Compared (sends_of p ch) (element_due w p g) g s → Going w p g r sums masks shape count n y
        step {y} s ey c =
            record {
              given = so.given;
              shared = so.shared;
              shape_is = so.shape_is;
              count-is = so.count-is;
              turn = en.0;
              compared =
                  subst (λ (m : ℕ). Compared (sent_below w p m) (element_due w p g) g y) (sym en.1)
                  (turn_more (comparing g) (element_due w p g) w p so.given.answer so.given.room t.number less so.compared
                  (also (subst (λ (d : Channel). Compared (sends_of p d) (element_due w p g) g s) is c) ey));
            }

        pub going_more : {y : Option ℕ} → present_in p ch ≡ true → (s : Option ℕ) → ChannelSeen p ch sums g s → y ≡ both_of x s → Going w p g r sums masks shape count n y
        going_more h s c ey = step s ey (channel-compared h s c)

        pub going-pass : present_in p ch ≡ false → Going w p g r sums masks shape count n x
        going-pass h = step (Some 0) (both-none x) (same (λ e. sym (absent-sends p ch h e)) (λ e k. refl) (none (element_due w p g) g))

  pub going_end : count ≤ t.number → Compared (all_send w p) (element_due w p g) g x
  going_end l = turn-all (comparing g) (element_due w p g) w p t.number so.turn.most (omega (arith, so.count-is)) so.compared
