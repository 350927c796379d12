-- THE TURNS: the channel of each turn by cases and the turn of each channel, and the cursor's steps. Assumes nothing beyond the plan check's
-- answer.
use Prim.Native.Nat.{ℕ, zero, suc, ◌+◌, ◌-◌, ◌≤◌, ◌<◌}
use mathlib.Core.Path.{◌≡◌, refl, sym, ap, ◌∙◌}
use mathlib.Core.List.{List}
use native.Mathlib.Omega.{arith}
use borrow.Author.Tests.{lt-ltb, le-ltb, ltb-true, ltb-false}
use lib.Dec.{ltb}
use lib.ListN.{length, drop}
use Rattle.std.specs.declared.result.Result.TheVariants.{Ok as accepted}
use Rattle.base.proofs.Tests.{on-if}
use Rattle.plan.specs.Check.{check_of}
use Rattle.plan.specs.Commands.{user_of}
use Rattle.plan.specs.Fields.{mapping_units}
use Rattle.plan.specs.CommandLists.{next_of, users_of, nth_user}
use Rattle.plan.specs.Valid.{CellIn, FrameIn}
use Rattle.plan.specs.declared.Plan.{Plan}
use Rattle.plan.specs.declared.User.{User}
use Rattle.plan.proofs.Valid.{valid}
use Rattle.layout.specs.declared.Mark.TheVariants.{Primary, Secondary}
use Rattle.payload.specs.Sections.{section_bytes}
use Rattle.payload.specs.Loops.{computed_bit_count}
use Rattle.payload.proofs.Sections.{user-start-first}
use Rattle.schedule.specs.Schedule.{signal_turns, users_first, channel_count, later_at, channel_at, TurnOf, HasSequence, Among}
use Rattle.schedule.specs.Cursor.{users_before, TurnIn, first_turn, later_turn}
use Rattle.schedule.specs.declared.Turn.{Turn}
use Rattle.schedule.specs.declared.Channel.{Channel}
use Rattle.schedule.specs.declared.Channel.TheVariants.{Crs, Sync, Pbch, Pcfich, Phich, User as UserOf}
use Rattle.schedule.proofs.Slices.{from_first, from-user, from_next, start-next, section-end, user-valid}

module _ (w : List ℕ) (p : Plan) where
  abbrev R : ℕ
  R = signal_turns p.cell

  abbrev U : ℕ
  U = mapping_units p.cell

  -- ---- the channel of turn n
  later_of : (n m : ℕ) → n ≡ R + m → n < channel_count p → TurnOf w p n (later_at w p m)
  unfolding later_at TurnOf channel_count
  later_of n zero e l = omega arith
  later_of n (suc zero) e l = omega arith
  later_of n (suc (suc zero)) e l = omega arith
  later_of n (suc (suc (suc zero))) e l = omega arith
  later_of n (suc (suc (suc (suc m)))) e l =
      on-if (TurnOf w p n) (ltb m U) (λ t. (ltb-true m U t, omega arith))
      (λ f. let k = ltb-false m U f in let i : m - U ≡ n - users_first p = omega arith in (omega arith, l, ap (nth_user w p) i))

  pub turn-of : (n : ℕ) → n < channel_count p → TurnOf w p n (channel_at w p n)
  unfolding channel_at TurnOf
  turn-of n l =
      on-if (TurnOf w p n) (ltb n R) (λ t. (ltb-true n R t, refl))
      (λ f. let k = ltb-false n R f in later_of n (n - R) (omega arith) l)

  -- ---- and the turn of a channel
  pub turn-lt : (n : ℕ) (ch : Channel) → TurnOf w p n ch → n < channel_count p
  unfolding TurnOf channel_count
  turn-lt n (Crs s) h = omega arith
  turn-lt n (Sync Primary) h = omega arith
  turn-lt n (Sync Secondary) h = omega arith
  turn-lt n Pbch h = omega arith
  turn-lt n Pcfich h = omega arith
  turn-lt n (Phich m) h = omega arith
  turn-lt n (UserOf u) h = h.1

  pub signal-is : (n : ℕ) → n < R → channel_at w p n ≡ Crs n
  unfolding channel_at
  signal-is n l = rw (lt-ltb n R l) refl

  pub later-is : (n m : ℕ) → n ≡ R + m → channel_at w p n ≡ later_at w p m
  unfolding channel_at
  later-is n m e = rw (le-ltb n R (omega arith)) (let d : n - R ≡ m = omega arith in ap (later_at w p) d)

  pub unit-is : (m : ℕ) → m < U → later_at w p (4 + m) ≡ Phich m
  unfolding later_at
  unit-is m l = let e : 4 + m ≡ suc (suc (suc (suc m))) = omega arith in ap (later_at w p) e ∙ rw (lt-ltb m U l) refl

  pub user-is : (m : ℕ) → U ≤ m → later_at w p (4 + m) ≡ UserOf (nth_user w p (m - U))
  unfolding later_at
  user-is m l = let e : 4 + m ≡ suc (suc (suc (suc m))) = omega arith in ap (later_at w p) e ∙ rw (le-ltb m U l) refl

  pub channel-is : (n : ℕ) (ch : Channel) → TurnOf w p n ch → channel_at w p n ≡ ch
  unfolding TurnOf later_at
  channel-is n (Crs s) h = signal-is n (omega (arith, h.0, h.1)) ∙ ap Crs h.1
  channel-is n (Sync Primary) h = later-is n 0 (omega arith)
  channel-is n (Sync Secondary) h = later-is n 1 h
  channel-is n Pbch h = later-is n 2 h
  channel-is n Pcfich h = later-is n 3 h
  channel-is n (Phich m) h = later-is n (4 + m) (omega arith) ∙ unit-is m h.0
  channel-is n (UserOf u) h =
      let d : n - users_first p + U - U ≡ n - users_first p = omega arith in
      later-is n (4 + (n - users_first p + U)) (omega arith) ∙ user-is (n - users_first p + U) (omega arith) ∙ ap (λ (i : ℕ). UserOf (nth_user w p i)) d ∙ ap UserOf (sym h.2)

  -- ---- the cursor
  pub first-in : TurnIn w p (first_turn p)
  unfolding first_turn
  first-in =
      let z : 0 - users_first p ≡ 0 = omega arith in
      record {
        most = omega arith;
        users = rw z (from_first w p);
        section = rw z (sym (user-start-first w p));
      }

  pub later-in : TurnIn w p (later_turn p)
  unfolding later_turn channel_count
  later-in =
      let z : signal_turns p.cell - users_first p ≡ 0 = omega arith in
      record {
        most = omega arith;
        users = rw z (from_first w p);
        section = rw z (sym (user-start-first w p));
      }

  module _ (t r : Turn) (so : TurnIn w p t) (one : r.number ≡ t.number + 1) where
    -- a turn that is no user's
    pub passed : t.number < users_first p → r.at ≡ t.at → r.start ≡ t.start → TurnIn w p r
    unfolding channel_count
    passed l ea es =
        let z : users_before p t.number ≡ users_before p r.number = omega arith in
        record {
          most = omega arith;
          users = rw (ea, ← z) so.users;
          section = rw (es, ← z) so.section;
        }

  module _ (ok : check_of w ≡ accepted p) (t : Turn) (so : TurnIn w p t) (from : users_first p ≤ t.number) (more : t.number < channel_count p) where
    abbrev i : ℕ
    i = users_before p t.number

    less : users_before p t.number < p.users.count
    unfolding channel_count
    less = omega arith

    in-i : users_before p t.number < length (users_of w p)
    in-i = omega (arith, less, (valid w p ok).users-count)

    -- a user's: its command stands at the cursor's position, and the next one's follows
    pub due-user : user_of (drop t.at w) ≡ nth_user w p (users_before p t.number)
    due-user = from-user w p t.at i so.users in-i less

    pub moved :
        (r : Turn) (u : User) → r.number ≡ t.number + 1 → u ≡ nth_user w p (users_before p t.number) → r.at ≡ next_of w t.at
        → r.start ≡ t.start + section_bytes (computed_bit_count p.cell p.frame u) → TurnIn w p r
    unfolding channel_count
    moved r u one eu ea es =
        let z : i + 1 ≡ users_before p r.number = omega arith in
        record {
          most = omega arith;
          users = rw (ea, ← z) (from_next w p t.at i so.users in-i less);
          section =
              section-end w p ok w i in-i u t.start r.start eu es ∙ rw (← z) (rw so.section (sym (start-next w p ok w i in-i)));
        }

-- ---- a channel of the plan that has a sequence has what its start needs
pub begins :
    (w : List ℕ) (p : Plan) → check_of w ≡ accepted p → (n : ℕ) (ch : Channel) → HasSequence ch → TurnOf w p n ch
    → CellIn p.cell × FrameIn p.frame × Among p ch
unfolding Among TurnOf channel_count
begins w p ok n ch q t = ((valid w p ok).cell, (valid w p ok).frame, among ch q t)
  where
    among : (c : Channel) → HasSequence c → TurnOf w p n c → Among p c
    among (Crs s) h y = y.0
    among (Sync m) h y = h
    among Pbch h y = tt
    among Pcfich h y = tt
    among (Phich m) h y = y.0
    among (UserOf u) h y = rw y.2 (user-valid w p ok w (n - users_first p) (omega (arith, y.0, y.1, (valid w p ok).users-count)))
