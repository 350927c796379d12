-- What the turns of the schedule need, and how far each leaves the payload. Assumes nothing beyond what reading needs.
use Prim.Native.Nat.{ℕ, ◌+◌, ◌-◌, ◌*◌, ◌≤◌, ◌<◌}
use mathlib.Core.Path.{◌≡◌, refl, sym, ap, subst, ◌∙◌}
use mathlib.Core.Bool.{true, false}
use mathlib.Core.List.{List}
use native.Mathlib.Omega.{arith}
use borrow.Author.Tests.{eqb-true, eqb-false}
use lib.ListN.{length, drop}
use borrow.Rule.Slice.PartMut.{put_mid, mid_len, put_same}
use Rattle.std.specs.declared.result.Result.TheVariants.{Ok as accepted}
use Rattle.base.proofs.Tests.{by-test, clash}
use Rattle.gold.specs.declared.Registers.{Registers}
use Rattle.plan.specs.Check.{check_of}
use Rattle.plan.specs.CommandLists.{his_from, his_of, users_of, nth_user}
use Rattle.plan.specs.Valid.{CellIn, FrameIn}
use Rattle.plan.specs.declared.User.{User}
use Rattle.plan.specs.declared.Plan.{Plan}
use Rattle.plan.proofs.Valid.{valid}
use Rattle.plan.proofs.Counts.{units-least, users-most}
use Rattle.layout.specs.declared.Mark.{Mark}
use Rattle.layout.specs.declared.Mark.TheVariants.{Primary, Secondary}
use Rattle.payload.specs.Sections.{section_bytes, bytes_of}
use Rattle.payload.specs.Payload.{pbch_bit_count, user_bit_count, heads, payload_length, users_start}
use Rattle.payload.proofs.Lengths.{pbch-none}
use Rattle.payload.proofs.Sections.{user_start, user-start, user-start-end}
use Rattle.subframe.proofs.OwnerBits.{pbch-size, user-order}
use Rattle.recovery.specs.Recovery.{section_of as recovered, payload_in}
use Rattle.recovery.proofs.Channels.{pbch-length}
use Rattle.areas.specs.Areas.{pbch_area, user_area}
use Rattle.areas.proofs.AreaOwners.{pbch-in, user-in, pbch-count, user-count}
use Rattle.data_read.proofs.AreaBits.{pbch-section, user-section}
use Rattle.control_read.specs.Reading.{ack_from, ReadIn}
use Rattle.control_read.proofs.ReadingOwners.{acks-are, read-in}
use Rattle.schedule.specs.Schedule.{signal_turns, users_first, channel_count, channel_at, TurnOf, init_of, first_bit, start_pair, Among, present_in, section_of, part_of}
use Rattle.schedule.specs.Cursor.{later_turn, users_before, TurnIn, Due}
use Rattle.schedule.specs.declared.Section.{Section}
use Rattle.schedule.specs.declared.Turn.{Turn}
use Rattle.schedule.specs.declared.Channel.{Channel}
use Rattle.schedule.specs.declared.Channel.TheVariants.{Crs, Sync, Pbch, Pcfich, Phich, User as UserOf}
use Rattle.schedule.proofs.Owners as owners
use Rattle.schedule.proofs.Slices.{section-end, start-next, heads-room}
use Rattle.schedule.proofs.Turns.{turn-of, begins, later-in}
use Rattle.schedule.proofs.Values.{section-room}
use Rattle.verify.specs.Made.{Given}
use Rattle.verify.proofs.Known.{pbch-known, pbch-even, user-known, user-even}
use Rattle.read.specs.Reading.{Readable, BytesRead, ReadBefore, PartIn, part_read, PartOf, own_part, part_after}
use Rattle.read.proofs.Parts.{pbch-part, acks-part, user-part, put_in, bytes-joined, bytes-all}

module _ {w : List ℕ} {p : Plan} {g before : List ℕ} (start : Readable w p g before) where
  ok : check_of w ≡ accepted p
  ok = start.answer

  given : Given w p g
  given = record { answer = start.answer; room = start.room }

  abbrev R : ℕ
  R = signal_turns p.cell

  -- the bytes of PBCH's section
  abbrev H : ℕ
  H = section_bytes (pbch_bit_count p.cell p.frame)

  -- ---- the HIs, before the first turn
  pub acks-begin : CellIn p.cell × FrameIn p.frame × Among p (Phich 0)
  unfolding Among
  acks-begin = ((valid w p ok).cell, (valid w p ok).frame, omega (arith, units-least p.cell (valid w p ok).cell))

  module _ (x : Section) (ex : x ≡ section_of p 0 (Phich 0)) where
    from_is : x.start ≡ section_bytes (pbch_bit_count p.cell p.frame)
    unfolding section_of
    from_is = ap (λ (s : Section). s.start) ex

    to_is : x.end ≡ users_start p
    unfolding section_of
    to_is = ap (λ (s : Section). s.end) ex

    pub acks-room : (x.start ≤ x.end) × (x.end ≤ length before)
    acks-room = let h = heads-room w p ok before x.start x.end from_is to_is in (h.0, omega (arith, h.1, start.size))

    pub acks-in : ReadIn p.cell p.his w g (part_of x before)
    unfolding users_start heads bytes_of
    acks-in = read-in w p ok start.room (mid_len x.start x.end before acks-room.1 ∙ omega (arith, from_is, to_is))

    pub acks-read :
        (r : Registers) → r ≡ start_pair p (Phich 0) → (ys : List ℕ) → ys ≡ recovered (ack_from p.cell r (his_from (drop p.his.at w) p.his.count) g) p.his.count
        → (t : Turn) → t ≡ later_turn p → TurnIn w p t × ReadBefore w p g t (put_mid x.start (x.end - x.start) before ys)
    unfolding init_of first_bit his_of later_turn
    acks-read r er ys ey t et =
        let room = heads-room w p ok before x.start x.end from_is to_is in
        let put =
        put_in w p g before ys start.size x.start x.end room.0 room.1
        (ey
        ∙ ap (λ (s : Registers). recovered (ack_from p.cell s (his_of w p) g) p.his.count) er
        ∙ ap (λ (bit : ℕ → ℕ). recovered bit p.his.count) (λ t n. acks-are w p g n t)
        ∙ sym (acks-part w p g x.start x.end from_is to_is))
        in
        rw et (
          later-in w p,
          record {
            size = put.size;
            pbch = λ l. absurd (omega arith);
            others = record { byte = λ i a b. put.own.byte i (omega (arith, from_is)) (omega (arith, to_is)) };
          },
        )

  -- ---- what PBCH and the users need
  pbch-needs :
      (n : ℕ) → TurnOf w p n Pbch → p.frame.subframe ≡ 0 → (part : List ℕ) → length part ≡ section_bytes (pbch_bit_count p.cell p.frame)
      → PartIn p Pbch (pbch_area p.cell p.frame) 2 g part
  pbch-needs n y z part size =
      record {
        begins = begins w p ok n Pbch tt y;
        section =
            record {
              area = pbch-in w p ok 2 g (omega arith, omega arith, omega arith) start.room;
              known = pbch-known w p g given start.made z;
              pairs = pbch-even w p g given z;
            };
        signals = λ many. (omega arith, λ e. omega arith);
        size = size ∙ ap section_bytes (sym (ap (λ (n : ℕ). 2 * n) (pbch-count w p ok z) ∙ sym (pbch-size w p ok) ∙ pbch-length w p ok));
      }

  module _ (n : ℕ) (u : User) (y : TurnOf w p n (UserOf u)) where
    abbrev i : ℕ
    i = n - users_first p

    in-i : n - users_first p < length (users_of w p)
    unfolding TurnOf
    in-i = owners.user-in w p ok start.room n y.0 y.1

    user-is : u ≡ nth_user w p (n - users_first p)
    unfolding TurnOf
    user-is = y.2

    user-needs : (part : List ℕ) → length part ≡ section_bytes (user_bit_count w p (n - users_first p)) → PartIn p (UserOf u) (user_area p.cell p.frame u) u.order g part
    unfolding nth_user user_bit_count
    user-needs part size =
        subst (λ (v : User). PartIn p (UserOf u) (user_area p.cell p.frame v) v.order g part) (sym user-is)
        (record {
          begins = begins w p ok n (UserOf u) tt y;
          section =
              record {
                area = user-in w p ok (nth_user w p i).order g (user-order w p ok i in-i) start.room i in-i (record { rnti = 0; order = 0; first = 0; count = 0 });
                known = user-known w p g given start.made i in-i;
                pairs = user-even w p g given i in-i;
              };
          signals = λ many. (many, start.room.not_three);
          size = size ∙ ap (λ (m : ℕ). section_bytes ((nth_user w p i).order * m)) (sym (user-count w p ok i in-i _));
        })

  -- ---- a turn
  module _ {t : Turn} (so : TurnIn w p t) (payload : List ℕ) (right : length payload ≡ payload_length w p) where
    abbrev Part : Channel → List ℕ
    Part ch = part_of (section_of p t.start ch) payload

    user-ends : (u : User) → TurnOf w p t.number (UserOf u) → (section_of p t.start (UserOf u)).end ≡ t.start + section_bytes (user_bit_count w p (t.number - users_first p))
    unfolding section_of
    user-ends u y = section-end w p ok before (t.number - users_first p) (in-i t.number u y) u t.start _ (user-is t.number u y) refl

    part-size : (ch : Channel) → TurnOf w p t.number ch → length (Part ch) ≡ (section_of p t.start ch).end - (section_of p t.start ch).start
    part-size ch y = mid_len (section_of p t.start ch).start (section_of p t.start ch).end payload (omega (arith, section-room w p ok before start.room t so ch y))

    turn-needs : (ch : Channel) → TurnOf w p t.number ch → present_in p ch ≡ true → PartOf p ch g (part_of (section_of p t.start ch) payload)
    unfolding PartOf present_in section_of
    turn-needs (Crs s) y h = tt
    turn-needs (Sync m) y h = tt
    turn-needs Pbch y h = pbch-needs t.number y (eqb-true p.frame.subframe 0 h) (Part Pbch) (part-size Pbch y ∙ omega arith)
    turn-needs Pcfich y h = tt
    turn-needs (Phich m) y h = tt
    turn-needs (UserOf u) y h = user-needs t.number u y (Part (UserOf u)) (part-size (UserOf u) y ∙ omega (arith, user-ends u y))

    -- ---- how far it leaves the payload
    module _ {r : Turn} (to : TurnIn w p r) (one : r.number ≡ t.number + 1) (had : ReadBefore w p g t payload) where
      -- a turn that is no user's, and one that is not PBCH's besides
      same_start : t.number < users_first p → r.start ≡ t.start
      same_start l = let e : users_before p r.number ≡ users_before p t.number = omega arith in to.section ∙ ap (user_start w p) e ∙ sym so.section

      others-kept : t.number < users_first p → BytesRead w p g H r.start payload
      others-kept l = subst (λ (n : ℕ). BytesRead w p g H n payload) (sym (same_start l)) had.others

      pass : t.number < users_first p → (R + 2 < t.number + 1 → R + 2 < t.number) → ReadBefore w p g r payload
      pass l k = record { size = right; pbch = λ m. had.pbch (k (omega arith)); others = others-kept l }

      crs-pass : (s : ℕ) → TurnOf w p t.number (Crs s) → ReadBefore w p g r payload
      unfolding TurnOf
      crs-pass s y = pass (omega arith) (λ k. omega arith)

      sync-pass : (m : Mark) → TurnOf w p t.number (Sync m) → ReadBefore w p g r payload
      unfolding TurnOf
      sync-pass Primary y = pass (omega arith) (λ k. omega arith)
      sync-pass Secondary y = pass (omega arith) (λ k. omega arith)

      -- the subframe does not have the channel
      absent-read : (ch : Channel) → TurnOf w p t.number ch → present_in p ch ≡ false → ReadBefore w p g r payload
      unfolding TurnOf present_in
      absent-read (Crs s) y h = crs-pass s y
      absent-read (Sync m) y h = sync-pass m y
      absent-read Pbch y h =
          record {
            size = right;
            pbch = λ m. record { byte = λ i a b. absurd (omega (arith, pbch-none p.cell p.frame (eqb-false p.frame.subframe 0 h))) };
            others = others-kept (omega arith);
          }
      absent-read Pcfich y h = clash refl h
      absent-read (Phich m) y h = clash refl h
      absent-read (UserOf u) y h = clash refl h

      -- it has it
      module _ (ys : List ℕ) where
        abbrev After : Channel → List ℕ
        After ch = put_mid (section_of p t.start ch).start ((section_of p t.start ch).end - (section_of p t.start ch).start) payload ys

        -- nothing is read
        same_read : (ch : Channel) → ys ≡ Part ch → ReadBefore w p g r payload → ReadBefore w p g r (After ch)
        same_read ch e so =
            let x = section_of p t.start ch in
            subst (λ (l : List ℕ). ReadBefore w p g r l) (sym (ap (put_mid x.start (x.end - x.start) payload) e ∙ put_same x.start (x.end - x.start) payload)) so

        pbch-read : TurnOf w p t.number Pbch → present_in p Pbch ≡ true → ys ≡ own_part p Pbch g (Part Pbch) → ReadBefore w p g r (After Pbch)
        unfolding TurnOf present_in own_part section_of init_of first_bit
        pbch-read y h e =
            let room = section-room w p ok before start.room t so Pbch y in
            let x = put_in w p g payload ys right 0 H room.0 room.1 (e ∙ pbch-section w p ok (eqb-true p.frame.subframe 0 h) g ∙ sym (pbch-part w p g H refl)) in
            record { size = x.size; pbch = λ m. x.own; others = x.late (omega arith) (others-kept (omega arith)) }

        user-read : (u : User) → TurnOf w p t.number (UserOf u) → ys ≡ own_part p (UserOf u) g (Part (UserOf u)) → ReadBefore w p g r (After (UserOf u))
        unfolding TurnOf own_part init_of first_bit section_of
        user-read u y e =
            let n = t.number in let i = t.number - users_first p in let end = (section_of p t.start (UserOf u)).end in
            let room = section-room w p ok before start.room t so (UserOf u) y in
            let ends = user-ends u y in
            let x =
            put_in w p g payload ys right t.start end room.0 room.1
            (e
            ∙ ap (λ (v : User). part_read p (UserOf v) (user_area p.cell p.frame v) v.order g) (user-is n u y)
            ∙ user-section w p ok i (in-i n u y) g
            ∙ sym (user-part w p g i (in-i n u y) t.start end so.section ends))
            in
            let after : i + 1 ≡ users_before p r.number = omega (arith, y.0) in
            let next : end ≡ r.start = omega (arith, ends, so.section, start-next w p ok before i (in-i n u y), ap (user_start w p) after, to.section) in
            let first : H ≤ t.start = omega (arith, so.section, user-start w p i, (heads-room w p ok before H (users_start p) refl refl).0) in
            record {
              size = x.size;
              pbch = λ m. x.early first (had.pbch (omega (arith, y.0)));
              others = subst (λ (m : ℕ). BytesRead w p g H m (After (UserOf u))) next (bytes-joined w p g (x.early (omega arith) had.others) x.own);
            }

        present-read : (ch : Channel) → TurnOf w p t.number ch → present_in p ch ≡ true → ys ≡ own_part p ch g (Part ch) → ReadBefore w p g r (After ch)
        unfolding TurnOf own_part
        present-read (Crs s) y h e = same_read (Crs s) e (crs-pass s y)
        present-read (Sync m) y h e = same_read (Sync m) e (sync-pass m y)
        present-read Pbch y h e = pbch-read y h e
        present-read Pcfich y h e = same_read Pcfich e (pass (omega arith) (λ k. omega arith))
        present-read (Phich m) y h e = same_read (Phich m) e (pass (omega arith) (λ k. omega arith))
        present-read (UserOf u) y h e = user-read u y e

        turn-read : (ch : Channel) → TurnOf w p t.number ch → ys ≡ part_after p ch g (part_of (section_of p t.start ch) payload) → ReadBefore w p g r (After ch)
        turn-read ch y e =
            by-test (present_in p ch) (λ h. present-read ch y h (e ∙ rw h refl)) (λ h. same_read ch (e ∙ rw h refl) (absent-read ch y h))

  -- ---- as the loop has it: the count of turns, the channel and its section by their equations
  pub count-in : CellIn p.cell × (p.users.count ≤ 100)
  count-in = ((valid w p ok).cell, users-most w p ok)

  module _ {t : Turn} (so : TurnIn w p t) {n : ℕ} (all : n ≡ channel_count p) (l : t.number < n) where
    pub due : Due w p t
    due = record { answer = ok; turn = so; more = omega arith }

    module _ {ch : Channel} (is : ch ≡ channel_at w p t.number) {payload : List ℕ} (had : ReadBefore w p g t payload) (x : Section) (ex : x ≡ section_of p t.start ch) where
      turn : TurnOf w p t.number ch
      turn = subst (TurnOf w p t.number) (sym is) (turn-of w p t.number due.more)

      pub loop-room : (x.start ≤ x.end) × (x.end ≤ length payload)
      loop-room = rw (ex, had.size) (section-room w p ok before start.room t so ch turn)

      pub loop-needs : present_in p ch ≡ true → PartOf p ch g (part_of x payload)
      loop-needs = rw ex (turn-needs so payload had.size ch turn)

      pub loop-read :
          (r : Turn) → TurnIn w p r × (r.number ≡ t.number + 1) → (ys : List ℕ) → ys ≡ part_after p ch g (part_of x payload)
          → ReadBefore w p g r (put_mid x.start (x.end - x.start) payload ys)
      loop-read r to ys = rw ex (turn-read so payload had.size to.0 to.1 had ys ch turn)

  -- all turns are over
  pub all_read : {t : Turn} → TurnIn w p t → {n : ℕ} → n ≡ channel_count p → n ≤ t.number → {payload : List ℕ} → ReadBefore w p g t payload → payload ≡ payload_in w p g
  unfolding channel_count
  all_read {t} so all l {payload} had =
      let n : users_before p t.number ≡ length (users_of w p) = omega (arith, so.most, (valid w p ok).users-count) in
      let e : t.start ≡ payload_length w p = so.section ∙ ap (user_start w p) n ∙ user-start-end w p in
      bytes-all w p g had.size (subst (λ (m : ℕ). BytesRead w p g 0 m payload) e (bytes-joined w p g (had.pbch (omega arith)) had.others))
