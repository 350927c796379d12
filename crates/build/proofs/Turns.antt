-- What the turns have written, and what each needs. Assumes nothing beyond what filling needs.
use Prim.Native.Nat.{ℕ, ◌+◌, ◌-◌, ◌*◌, ◌/◌, ◌%◌, ◌≤◌, ◌<◌}
use mathlib.Core.Path.{◌≡◌, refl, sym, ap, subst, ◌∙◌}
use mathlib.Core.Bool.{true, false}
use mathlib.Core.List.{List}
use native.Mathlib.Omega.{arith}
use lib.ListN.{length, take, drop}
use Rattle.std.specs.declared.result.Result.TheVariants.{Ok as accepted}
use Rattle.base.specs.declared.Element.{Element}
use Rattle.base.specs.Bits.{bit_at}
use Rattle.base.specs.Bytes.{byte_in}
use Rattle.base.specs.Tables.{table}
use Rattle.base.proofs.Tables.{table-length}
use Rattle.modulation.specs.Symbols.{Order, unit_in, unit_of}
use Rattle.phich.specs.Spreading.{spread_length}
use Rattle.phich.specs.Loops.{HisIn, QuadSums}
use Rattle.plan.specs.Check.{check_of}
use Rattle.plan.specs.CommandLists.{his_from, his_of}
use Rattle.plan.specs.Valid.{CellIn, FrameIn}
use Rattle.plan.specs.declared.Plan.{Plan}
use Rattle.plan.proofs.Counts.{users-most}
use Rattle.plan.proofs.Valid.{valid}
use Rattle.places.specs.Places.{places_of}
use Rattle.payload.specs.Sections.{section_bytes}
use Rattle.payload.specs.Payload.{pbch_bit_count, grid_length, payload_length, users_start}
use Rattle.grid.specs.Writing.{Written, Room}
use Rattle.grid.proofs.Accumulating.{writing}
use Rattle.grid.proofs.Writing.{none, same, whole}
use Rattle.subframe.specs.Grid.{element_numbered, grid_of}
use Rattle.subframe.proofs.Bytes.{length-by-port}
use Rattle.subframe.proofs.OwnerBits.{order-of}
use Rattle.data_write.specs.Sent.{TableOf}
use Rattle.control.proofs.ControlOwners.{part-levels, his-known}
use Rattle.schedule.specs.Schedule.{TurnOf, channel_count, channel_at, Among, start_pair, present_in, sends_of, sent_of, sent_below, all_send, section_of, SumsOf, part_of, lent_to}
use Rattle.schedule.specs.Cursor.{TurnIn, Due, first_turn}
use Rattle.schedule.specs.declared.Section.{Section}
use Rattle.schedule.specs.declared.Turn.{Turn}
use Rattle.schedule.specs.declared.Channel.{Channel}
use Rattle.schedule.specs.declared.Channel.TheVariants.{Crs, Sync, Pbch, Pcfich, Phich, User}
use Rattle.schedule.proofs.TurnByTurn.{turn-none, turn_more, turn-all}
use Rattle.schedule.proofs.Covers.{covers}
use Rattle.schedule.proofs.Senders.{absent-sends}
use Rattle.schedule.proofs.Slices.{heads-room}
use Rattle.schedule.proofs.Turns.{turn-of, first-in, begins}
use Rattle.schedule.proofs.Steps.{start-few}
use Rattle.schedule.proofs.Values.{value, sums-of, section-room, bits_of}
use Rattle.channel_write.specs.Channels.{LevelsIn, TableFor, ChannelIn}
use Rattle.std.specs.declared.option.Option.{Option}
use Rattle.std.specs.declared.option.Option.TheVariants.{Some, None}
use Rattle.build.proofs.Orders.{never, some-same}
use Rattle.build.specs.Filling.{Ready, Shared, Having, order_of, TurnReady}
use Rattle.build.proofs.Answers.{plan-room}

-- ---- the table at hand: none, as it is made, and as it is
module _ {P : ℕ} {t : List ℕ} where
  pub having-none : length t ≡ 256 → Having P None t
  having-none e = record { size = e; table = λ q n. absurd (never n) }

  pub having-made : {q : ℕ} → TableOf P q (unit_of q) t → Having P (Some q) t
  having-made x = record { size = x.table.size; table = λ r n. subst (λ (k : ℕ). TableOf P k (unit_of k) t) (some-same n) x }

-- ---- one turn
module _ {p : Plan} {ch : Channel} {have : Option ℕ} {t masks sums bits grid : List ℕ} (ok : TurnReady p ch have t masks sums bits grid) where
  abbrev w : List ℕ
  w = ok.bytes

  -- a channel that the subframe does not have
  pub turn-absent : present_in p ch ≡ false → Written (sends_of p ch) (sent_of p (lent_to ch sums bits) (start_pair p ch) ch) grid grid
  turn-absent h = same (λ e. sym (absent-sends p ch h e)) (λ e k. refl) (none _ grid)

  -- the order of one that reads a table
  orders : (c : Channel) → TurnOf w p ok.number c → (q : ℕ) → order_of c ≡ Some q → Order q
  unfolding order_of Among
  orders (Crs s) y q e = absurd (never e)
  orders (Sync m) y q e = absurd (never e)
  orders Pbch y q e = subst Order (some-same e) (refl, omega arith, omega arith)
  orders Pcfich y q e = absurd (never e)
  orders (Phich m) y q e = absurd (never e)
  orders (User u) y q e = subst Order (some-same e) (order-of u.order (begins w p ok.plan ok.number (User u) tt y).2.order)

  tables : {s : List ℕ} (c : Channel) → ((q : ℕ) → order_of c ≡ Some q → TableOf p.cell.ports q (unit_of q) s) → TableFor p c s
  unfolding order_of TableFor unit_of unit_in
  tables (Crs s) x = tt
  tables (Sync m) x = tt
  tables Pbch x = x 2 refl
  tables Pcfich x = tt
  tables (Phich m) x = tt
  tables (User u) x = x u.order refl

  module _ {o : Option ℕ} (eo : o ≡ order_of ch) where
    pub turn-order : {q : ℕ} → o ≡ Some q → Order q
    turn-order {q} e = orders ch ok.turn q (sym eo ∙ e)

    channel : {s : List ℕ} → present_in p ch ≡ true → ((q : ℕ) → o ≡ Some q → TableOf p.cell.ports q (unit_of q) s) → ChannelIn p ch s masks (lent_to ch sums bits) grid
    channel {s} h x =
        record {
          bytes = ok.bytes;
          plan = ok.plan;
          number = ok.number;
          turn = ok.turn;
          present = h;
          levels = ok.levels;
          table = tables ch (λ q e. x q (eo ∙ e));
          rows = ok.rows;
          room = ok.room;
        }

    -- one that reads a table, and one that reads none
    pub turn-channel : {s : List ℕ} → present_in p ch ≡ true → {q : ℕ} → o ≡ Some q → TableOf p.cell.ports q (unit_of q) s → ChannelIn p ch s masks (lent_to ch sums bits) grid
    turn-channel {s} h {q} e x = channel h (λ r f. subst (λ (k : ℕ). TableOf p.cell.ports k (unit_of k) s) (some-same (sym e ∙ f)) x)

    pub turn-without : {s : List ℕ} → present_in p ch ≡ true → o ≡ None → ChannelIn p ch s masks (lent_to ch sums bits) grid
    turn-without h e = channel h (λ q f. absurd (never (sym e ∙ f)))

-- ---- the turns: what they have written
module _ {w : List ℕ} {p : Plan} {payload g₀ : List ℕ} (start : Ready w p payload g₀) where
  ok : check_of w ≡ accepted p
  ok = start.answer

  abbrev E : ℕ → Element
  E = element_numbered w p payload

  pub turns-in : CellIn p.cell × (p.users.count ≤ 100)
  turns-in = ((valid w p ok).cell, users-most w p ok)

  -- PCFICH's start
  pub control-in : CellIn p.cell × FrameIn p.frame × Among p Pcfich
  unfolding Among
  control-in = ((valid w p ok).cell, (valid w p ok).frame, tt)

  -- the turn t is due, and those before it are written
  pub record Going (t : Turn) (g : List ℕ) : Type 0 where
    pub turn : TurnIn w p t
    pub written : Written (sent_below w p t.number) E g₀ g

  pub going-first : {t : Turn} → t ≡ first_turn p → Going t g₀
  unfolding first_turn
  going-first e = rw e (record { turn = first-in w p; written = turn-none (writing g₀) E w p })

  module _ {t : Turn} {g : List ℕ} (so : Going t g) {n : ℕ} (en : n ≡ channel_count p) (more : t.number < n) where
    pub going-due : Due w p t
    going-due = record { answer = ok; turn = so.turn; more = omega arith }

    module _ {ch : Channel} (is : ch ≡ channel_at w p t.number) where
      turn : TurnOf w p t.number ch
      turn = rw is (turn-of w p t.number going-due.more)

      pub going-few : t.start ≤ 4294967296
      going-few = start-few going-due is

      module _ {x : Section} (ex : x ≡ section_of p t.start ch) where
        pub going-room : (x.start ≤ x.end) × (x.end ≤ length payload)
        going-room = rw (start.right.size, ex) (section-room w p ok payload start.room t so.turn ch turn)

        module _ {masks sums : List ℕ} (shared : Shared w p payload masks sums) where
          levels : (bits : List ℕ) (c : Channel) → TurnOf w p t.number c → LevelsIn c (lent_to c sums bits)
          unfolding TurnOf LevelsIn lent_to
          levels bits (Crs s) y = tt
          levels bits (Sync m) y = tt
          levels bits Pbch y = tt
          levels bits Pcfich y = tt
          levels bits (Phich m) y = part-levels w p ok shared.made.sums m y.0
          levels bits (User u) y = tt

          room-kept : Room p.cell.ports (places_of p.cell) g
          room-kept =
              let r = start.room in
              record { some = r.some; most = r.most; not_three = r.not_three; fits = r.fits; size = so.written.size ∙ r.size }

          pub going-in : {have : Option ℕ} {s bits : List ℕ} → Having p.cell.ports have s → TurnReady p ch have s masks sums bits g
          going-in {bits = bits} h =
              record {
                bytes = w;
                plan = ok;
                number = t.number;
                turn = turn;
                levels = levels bits ch turn;
                rows = shared.rows;
                size = shared.made.sums.size;
                having = h;
                room = room-kept;
              }

          pub going_next :
              {h : List ℕ} {r : Turn} → Written (sends_of p ch) (sent_of p (lent_to ch sums (take (x.end - x.start) (drop x.start payload))) (start_pair p ch) ch) g h
              → TurnIn w p r × (r.number ≡ t.number + 1) → Going r h
          going_next {h} {r} k next =
              let bits = lent_to ch sums (part_of (section_of p t.start ch) payload) in
              let b = bits_of w p ok payload start.room t so.turn shared.made ch turn in
              let z : Written (sends_of p ch) E g h = same (λ e. refl) (λ e y. value w p ok payload start.room t.number bits e ch turn b y) (rw ex at k) in
              record {
                turn = next.0;
                written =
                    rw next.1
                    (turn_more (writing g₀) E w p ok start.room t.number going-due.more so.written (subst (λ (c : Channel). Written (sends_of p c) E g h) is z));
              }

  pub going_end : {t : Turn} {g : List ℕ} {n : ℕ} → Going t g → n ≡ channel_count p → n ≤ t.number → Written (all_send w p) E g₀ g
  going_end {t = t} so en l = turn-all (writing g₀) E w p t.number so.turn.most (omega arith) so.written

-- ---- the sums of all units
module _ (w : List ℕ) (p : Plan) (payload : List ℕ) (ok : check_of w ≡ accepted p) (size : length payload ≡ payload_length w p) where
  room : Room p.cell.ports (places_of p.cell) (table (grid_length p) (λ (i : ℕ). 0))
  room = plan-room w p ok (table (grid_length p) (λ (i : ℕ). 0)) (table-length (grid_length p) (λ (i : ℕ). 0))

  pub his-ready : {l : ℕ} → l ≡ spread_length p.cell → HisIn l w p.his.at p.his.count
  his-ready e = his-known w p ok e

  module _ {n from end : ℕ} (en : n ≡ pbch_bit_count p.cell p.frame) (ef : from ≡ section_bytes n) (ee : end ≡ users_start p) where
    pub heads-in : (from ≤ end) × (end ≤ length payload)
    heads-in = rw size (heads-room w p ok payload from end (ef ∙ ap section_bytes en) ee)

    pub sums-made :
        {l : ℕ} {s : List ℕ} → l ≡ spread_length p.cell → QuadSums l (bit_at (take (end - from) (drop from payload))) (his_from (drop p.his.at w) p.his.count) s
        → SumsOf w p payload s
    unfolding his_of
    sums-made el q = sums-of w p ok payload room el from end (ef ∙ ap section_bytes en) ee q

-- ---- all channels, over silence
pub silent-kept : (g₀ : List ℕ) {g₁ : List ℕ} → g₁ ≡ table (length g₀) (λ (i : ℕ). 0) → length g₁ ≡ length g₀
silent-kept g₀ e = rw e (table-length (length g₀) (λ (i : ℕ). 0))

module _ {w : List ℕ} {p : Plan} {payload g₀ g₁ : List ℕ} (start : Ready w p payload g₀) (quietly : g₁ ≡ table (length g₀) (λ (i : ℕ). 0)) where
  pub ready-silent : Ready w p payload g₁
  ready-silent =
      let r = start.room in
      record {
        answer = start.answer;
        right = start.right;
        room = record { some = r.some; most = r.most; not_three = r.not_three; fits = r.fits; size = silent-kept g₀ quietly ∙ r.size };
      }

  pub filled-whole : {g : List ℕ} → Written (all_send w p) (element_numbered w p payload) g₁ g → g ≡ grid_of w p payload
  unfolding grid_of
  filled-whole r =
      let z : g₁ ≡ table (3 * (p.cell.ports * places_of p.cell)) (λ (i : ℕ). 0) = quietly ∙ ap (λ (m : ℕ). table m (λ (i : ℕ). 0)) start.room.size in
      whole (p.cell.ports * places_of p.cell) (rw z at r) (λ x l h. covers w p start.answer payload x l h)
      ∙ ap (λ (m : ℕ). table m (λ (i : ℕ). byte_in (element_numbered w p payload (i / 3)) (i % 3))) (sym (length-by-port p))
