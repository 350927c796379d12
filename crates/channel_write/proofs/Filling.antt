-- What a channel of an accepted plan has for the function that fills it, and what that function writes, by cases on the channel.
-- Assumes nothing.
use Prim.Native.Nat.{ℕ, ◌+◌, ◌-◌, ◌*◌, ◌%◌, ◌≤◌, ◌<◌}
use mathlib.Core.Path.{◌≡◌, refl, sym, ap, subst, ◌∙◌}
use mathlib.Core.Bool.{true, false}
use mathlib.Core.List.{List, [], ◌∷◌}
use native.Mathlib.Omega.{arith}
use borrow.Author.Tests.{eqb-true}
use lib.Dec.{eqb, eqb→eq}
use lib.ListN.{length, take, drop}
use types.Run.{OneOf}
use denote.Enum.Declared.{tag_of}
use Rattle.gold.specs.declared.Registers.{Registers}
use Rattle.gold.specs.Steps.{after}
use Rattle.phich.specs.Spreading.{spread_length}
use Rattle.phich.proofs.Scrambled.{part-is}
use Rattle.modulation.specs.Symbols.{unit_of}
use Rattle.plan.specs.Lists.{one_of}
use Rattle.plan.specs.Fields.{port_counts}
use Rattle.plan.specs.CommandLists.{users_of, nth_user}
use Rattle.plan.specs.Valid.{Valid, CellIn, FrameIn, UserIn}
use Rattle.plan.specs.declared.Cell.{Cell}
use Rattle.plan.specs.declared.Plan.{Plan}
use Rattle.plan.specs.declared.User.{User}
use Rattle.plan.proofs.OneOf.{among-holds, not_in}
use Rattle.plan.proofs.Valid.{valid}
use Rattle.plan.proofs.Counts.{blocks-least, units-most}
use Rattle.layout.specs.declared.Mark.{Mark}
use Rattle.layout.proofs.Pilot.{slot-length}
use Rattle.counts.specs.Users.{user_elements}
use Rattle.counts.proofs.UserElements.{user-elements}
use Rattle.payload.specs.Payload.{pbch_bit_count}
use Rattle.grid.specs.Writing.{Written}
use Rattle.grid.proofs.Writing.{same}
use Rattle.subframe.proofs.OwnerBits.{pbch-both, order-of}
use Rattle.areas.specs.Areas.{area_count, pbch_area, user_area}
use Rattle.areas.specs.Tables.{RowMasks}
use Rattle.areas.specs.declared.Area.{Area}
use Rattle.areas.proofs.AreaOwners.{pbch-count, user-count}
use Rattle.data_write.specs.Areas.{FillIn, AreaFilled}
use Rattle.signals.specs.Signals.{signalled, crs_sends, crs_sent, mark_sends}
use Rattle.signals.specs.Rows.{SymbolIn, MarkIn}
use Rattle.control.specs.Control.{pcfich_sends, pcfich_sent, phich_sends, phich_sent}
use Rattle.control.specs.Filling.{PcfichIn, PhichIn}
use Rattle.schedule.specs.Schedule.{users_first, TurnOf, HasSequence, Among, init_of, first_bit, start_pair, present_in, mark_row, mark_sent, elements_of, sends_of, sent_of, lent_to}
use Rattle.schedule.specs.declared.Channel.{Channel}
use Rattle.schedule.specs.declared.Channel.TheVariants.{Crs, Sync, Pbch, Pcfich, Phich, User as UserOf}
use Rattle.schedule.specs.contracts.Channel.{the_type}
use Rattle.schedule.proofs.Senders.{present-sends}
use Rattle.schedule.proofs.Turns as turns
use Rattle.schedule.proofs.Owners.{user-in as one-of}
use Rattle.channel_write.specs.Channels.{bits_used, LevelsIn, TableFor, ChannelIn, SequenceIn}

-- ---- a cell has one, two or four ports
not_three : (c : Cell) → CellIn c → c.ports ≡ 3 → ⊥
not_three c h e =
    let a : c.ports * c.ports % 3 ≡ 1 = eqb→eq (c.ports * c.ports % 3) 1 (among-holds (λ (n : ℕ). eqb (n * n % 3) 1) port_counts c.ports tt h.ports) in
    let b : c.ports * c.ports % 3 ≡ 0 = ap (λ (n : ℕ). n * n % 3) e in
    let z : ◌≡◌ {A = ℕ} 0 1 = sym b ∙ a in
    omega arith

-- ---- what the functions require
module _ {p : Plan} {ch : Channel} {t masks bits grid : List ℕ} (ok : ChannelIn p ch t masks bits grid) where
  abbrev w : List ℕ
  w = ok.bytes

  v : Valid w p
  v = valid w p ok.plan

  pub crs-in : (s x : ℕ) → ch ≡ Crs s → x ≡ s → SymbolIn p.cell x grid
  unfolding TurnOf present_in
  crs-in s x e ex =
      let a = subst (TurnOf w p ok.number) e ok.turn in
      let b = subst (λ (c : Channel). present_in p c ≡ true) e ok.present in
      record { cell = v.cell; symbol = omega (arith, a.0, ex); signal = ap (signalled p.cell) ex ∙ b; room = ok.room }

  pub mark-in : MarkIn p.cell grid
  mark-in = record { cell = v.cell; room = ok.room }

  zeroth : ch ≡ Pbch → p.frame.subframe ≡ 0
  unfolding present_in
  zeroth e = eqb-true p.frame.subframe 0 (subst (λ (c : Channel). present_in p c ≡ true) e ok.present)

  pub pbch-wide : 6 ≤ p.cell.blocks
  pbch-wide = blocks-least p.cell v.cell

  pub pbch-in : {own : List ℕ} (a : Area) → ch ≡ Pbch → a ≡ pbch_area p.cell p.frame → RowMasks p.cell p.frame 4 false 14 own → FillIn a 2 t own grid
  unfolding TableFor
  pbch-in {own} a e ea bytes =
      let L = slot-length p.cell in
      subst (λ (b : Area). FillIn b 2 t own grid) (sym ea) (
      record {
        unit = 2;
        area =
            record {
              cell = v.cell;
              frame = v.frame;
              rows = omega (arith, L.0);
              halves = omega (arith, pbch-wide);
              order = (omega arith, omega arith, omega arith);
              room = ok.room;
            };
        signals = λ many. (omega arith, λ x. omega (arith, x));
        table = subst (λ (c : Channel). TableFor p c t) e ok.table;
        bytes = bytes;
      }
      )

  pub pcfich-in : PcfichIn p.cell p.frame.cfi grid
  pcfich-in = record { cell = v.cell; some = v.frame.some; most = v.frame.most; room = ok.room }

  pub phich-in : (m x : ℕ) → ch ≡ Phich m → x ≡ m → PhichIn p.cell x bits grid
  unfolding TurnOf LevelsIn
  phich-in m x e ex =
      let a = subst (TurnOf w p ok.number) e ok.turn in
      record { cell = v.cell; unit = omega (arith, a.0, ex); room = ok.room; levels = subst (λ (c : Channel). LevelsIn c bits) e ok.levels }

  -- the user by its number among the plan's
  user-is : (u : User) → ch ≡ UserOf u → (i : ℕ) × (i < length (users_of w p)) × (u ≡ nth_user w p i)
  unfolding TurnOf
  user-is u e =
      let a = subst (TurnOf w p ok.number) e ok.turn in
      (ok.number - users_first p, one-of w p ok.plan ok.room ok.number a.0 a.1, a.2)

  pub user-in : (u : User) (a : Area) (q : ℕ) → ch ≡ UserOf u → a ≡ user_area p.cell p.frame u → q ≡ u.order → FillIn a q t masks grid
  unfolding Among TableFor
  user-in u a q e ea eq =
      let h : UserIn p.cell u = (turns.begins w p ok.plan ok.number (UserOf u) tt (subst (TurnOf w p ok.number) e ok.turn)).2 in
      rw eq (subst (λ (b : Area). FillIn b u.order t masks grid) (sym ea) (
      record {
        unit = unit_of u.order;
        area =
            record {
              cell = v.cell;
              frame = v.frame;
              rows = omega arith;
              halves = omega (arith, h.last);
              order = order-of u.order h.order;
              room = ok.room;
            };
        signals = λ many. (many, not_three p.cell v.cell);
        table = subst (λ (c : Channel). TableFor p c t) e ok.table;
        bytes = ok.rows;
      }
      ))

  -- ---- what they write with the pair r, and where they leave it
  -- as the promises of the channels have it
  abbrev Fills : Registers → Registers → List ℕ → Channel → Type 0
  Fills r x h c = Written (sends_of p c) (sent_of p bits r c) grid h × (x ≡ after r (bits_used p c))

  module _ (r : Registers) {x : Registers} {h : List ℕ} where
    -- by a case of the channel
    sent : (c : Channel) → ch ≡ c → Written (elements_of p c) (sent_of p bits r c) grid h → x ≡ after r (bits_used p c) → Fills r x h ch
    sent c e k l =
        subst (Fills r x h) (sym e)
        (same (λ n. sym (present-sends p c (subst (λ (d : Channel). present_in p d ≡ true) e ok.present) n)) (λ n m. refl) k, l)

    pub crs-filled :
        (s y : ℕ) → ch ≡ Crs s → y ≡ s → Written (crs_sends p.cell y) (crs_sent p.cell r) grid h × (x ≡ after r (4 * p.cell.blocks)) → Fills r x h ch
    unfolding elements_of sent_of bits_used
    crs-filled s y e ey k =
        sent (Crs s) e (subst (λ (z : ℕ). Written (crs_sends p.cell z) (crs_sent p.cell r) grid h) ey k.0) k.1

    pub pbch-filled : (a : Area) → ch ≡ Pbch → a ≡ pbch_area p.cell p.frame → AreaFilled a 2 t bits r grid x h → Fills r x h ch
    unfolding elements_of sent_of bits_used TableFor
    pbch-filled a e ea k =
        let f : AreaFilled (pbch_area p.cell p.frame) 2 t bits r grid x h = subst (λ (b : Area). AreaFilled b 2 t bits r grid x h) ea k in
        let n : 2 * area_count (pbch_area p.cell p.frame) ≡ pbch_bit_count p.cell p.frame = ap (λ (m : ℕ). 2 * m) (pbch-count w p ok.plan (zeroth e)) ∙ sym (pbch-both w p ok.plan) in
        sent Pbch e (f.written 2 (subst (λ (c : Channel). TableFor p c t) e ok.table)) (f.pair ∙ ap (after r) n)

    pub pcfich-filled : ch ≡ Pcfich → Written (pcfich_sends p.cell) (pcfich_sent p.cell p.frame.cfi r) grid h × (x ≡ after r 32) → Fills r x h ch
    unfolding elements_of sent_of bits_used
    pcfich-filled e k = sent Pcfich e k.0 k.1

    pub phich-filled :
        (m y : ℕ) → ch ≡ Phich m → y ≡ m → Written (phich_sends p.cell y) (phich_sent p.cell y r bits) grid h × (x ≡ after r (3 * spread_length p.cell)) → Fills r x h ch
    unfolding elements_of sent_of bits_used
    phich-filled m y e ey k =
        sent (Phich m) e (subst (λ (z : ℕ). Written (phich_sends p.cell z) (phich_sent p.cell z r bits) grid h) ey k.0) k.1

    pub user-filled :
        (u : User) (a : Area) (q : ℕ) → ch ≡ UserOf u → a ≡ user_area p.cell p.frame u → q ≡ u.order → AreaFilled a q t bits r grid x h → Fills r x h ch
    unfolding elements_of sent_of bits_used TableFor nth_user
    user-filled u a q e ea eq k =
        let none : User = record { rnti = 0; order = 0; first = 0; count = 0 } in
        let d = user-is u e in
        let f : AreaFilled (user_area p.cell p.frame u) u.order t bits r grid x h =
        subst (λ (b : Area). AreaFilled b u.order t bits r grid x h) ea (subst (λ (m : ℕ). AreaFilled a m t bits r grid x h) eq k) in
        let n : area_count (user_area p.cell p.frame u) ≡ user_elements p.cell p.frame u.first u.count =
        rw d.2 (user-count w p ok.plan d.0 d.1 none ∙ user-elements w p ok.plan none d.0 d.1) in
        sent (UserOf u) e (f.written (unit_of u.order) (subst (λ (c : Channel). TableFor p c t) e ok.table)) (f.pair ∙ ap (λ (m : ℕ). after r (u.order * m)) n)

-- ---- a channel with a sequence
module _ {p : Plan} {ch : Channel} {t masks bits grid : List ℕ} (ok : SequenceIn p ch t masks bits grid) where
  -- what its start needs
  pub begins : CellIn p.cell × FrameIn p.frame × Among p ch
  begins = turns.begins ok.0.bytes p ok.0.plan ok.0.number ch ok.1 ok.0.turn

  -- is no mark
  pub no-mark : {X : Type 0} {m : Mark} → ch ≡ Sync m → X
  no-mark e = absurd (subst HasSequence e ok.1)

-- ---- a mark, a unit, and another channel
pub mark-put :
    (p : Plan) {m n : Mark} {g h : List ℕ} → m ≡ n → Written (mark_sends p.cell (mark_row n)) (mark_sent p n) g h
    → Written (mark_sends p.cell (mark_row m)) (mark_sent p m) g h
mark-put p {g = g} {h = h} e k = subst (λ (x : Mark). Written (mark_sends p.cell (mark_row x)) (mark_sent p x) g h) (sym e) k

module _ (sums bits : List ℕ) {p : Plan} {ch : Channel} {t masks grid : List ℕ} (ok : ChannelIn p ch t masks (lent_to ch sums bits) grid) where
  abbrev Wrote : List ℕ → Type 0
  Wrote h = Written (sends_of p ch) (sent_of p (lent_to ch sums bits) (start_pair p ch) ch) grid h

  pub mark-written : {m : Mark} {h : List ℕ} → ch ≡ Sync m → Written (mark_sends p.cell (mark_row m)) (mark_sent p m) grid h → Wrote h
  unfolding elements_of sent_of
  mark-written {m} {h} e k =
      subst (λ (c : Channel). Written (sends_of p c) (sent_of p (lent_to c sums bits) (start_pair p c) c) grid h) (sym e)
      (same (λ n. sym (present-sends p (Sync m) (subst (λ (d : Channel). present_in p d ≡ true) e ok.present) n)) (λ n l. refl) k)

  module _ {m x : ℕ} (e : ch ≡ Phich m) (ex : x ≡ m) where
    unit-lent : take (8 * x + 8 - 8 * x) (drop (8 * x) sums) ≡ lent_to (Phich m) sums bits
    unfolding lent_to
    unit-lent = part-is x sums ∙ ap (λ (n : ℕ). take 8 (drop (8 * n) sums)) ex

    pub unit-few : x < 25
    unfolding TurnOf
    unit-few =
        let a = subst (TurnOf ok.bytes p ok.number) e ok.turn in
        omega (arith, a.0, units-most p.cell (valid ok.bytes p ok.plan).cell)

    pub unit_ok : SequenceIn p (Phich m) t masks (take (8 * x + 8 - 8 * x) (drop (8 * x) sums)) grid
    unit_ok =
        (subst (λ (bytes : List ℕ). ChannelIn p (Phich m) t masks bytes grid) (sym unit-lent) (subst (λ (c : Channel). ChannelIn p c t masks (lent_to c sums bits) grid) e ok), tt)

    -- a unit's bits start where PCFICH's do
    pub unit-written :
        {control : Registers} {h : List ℕ} → control ≡ start_pair p Pcfich
        → Written (sends_of p (Phich m)) (sent_of p (take (8 * x + 8 - 8 * x) (drop (8 * x) sums)) control (Phich m)) grid h → Wrote h
    unfolding init_of first_bit
    unit-written {h = h} er k =
        subst (λ (c : Channel). Written (sends_of p c) (sent_of p (lent_to c sums bits) (start_pair p c) c) grid h) (sym e)
        (subst (λ (bytes : List ℕ). Written (sends_of p (Phich m)) (sent_of p bytes (start_pair p Pcfich) (Phich m)) grid h) unit-lent
        (subst (λ (r : Registers). Written (sends_of p (Phich m)) (sent_of p (take (8 * x + 8 - 8 * x) (drop (8 * x) sums)) r (Phich m)) grid h) er k))

  module _ (e : ch ≡ Pcfich) where
    pub pcfich-ok : SequenceIn p ch t masks bits grid
    unfolding lent_to
    pcfich-ok =
        subst (λ (c : Channel). SequenceIn p c t masks bits grid) (sym e) (subst (λ (c : Channel). ChannelIn p c t masks (lent_to c sums bits) grid) e ok, tt)

    pub pcfich-written : {control : Registers} {h : List ℕ} → control ≡ start_pair p Pcfich → Written (sends_of p ch) (sent_of p bits control ch) grid h → Wrote h
    unfolding lent_to
    pcfich-written {control = r} {h = h} er k =
        subst (λ (c : Channel). Written (sends_of p c) (sent_of p (lent_to c sums bits) (start_pair p c) c) grid h) (sym e)
        (subst (λ (x : Registers). Written (sends_of p Pcfich) (sent_of p bits x Pcfich) grid h) er (subst (λ (c : Channel). Written (sends_of p c) (sent_of p bits r c) grid h) e k))

  module _ (k : OneOf (0 ∷ 2 ∷ 5 ∷ []) (tag_of the_type ch)) where
    other : (c : Channel) → OneOf (0 ∷ 2 ∷ 5 ∷ []) (tag_of the_type c) → HasSequence c × (lent_to c sums bits ≡ bits)
    unfolding one_of lent_to
    other (Crs s) h = (tt, refl)
    other (Sync m) h = absurd (not_in (0 ∷ 2 ∷ 5 ∷ []) 1 h refl)
    other Pbch h = (tt, refl)
    other Pcfich h = absurd (not_in (0 ∷ 2 ∷ 5 ∷ []) 3 h refl)
    other (Phich m) h = absurd (not_in (0 ∷ 2 ∷ 5 ∷ []) 4 h refl)
    other (UserOf u) h = (tt, refl)

    pub other-ok : SequenceIn p ch t masks bits grid
    other-ok = (rw (← (other ch k).1) ok, (other ch k).0)

    pub other-starts : CellIn p.cell × FrameIn p.frame × Among p ch
    other-starts = begins other-ok

    pub other-written : {r : Registers} {h : List ℕ} → r ≡ start_pair p ch → Written (sends_of p ch) (sent_of p bits r ch) grid h → Wrote h
    other-written er c = rw ((other ch k).1, ← er) c
