-- The steps of the code: the channel of a turn, and the cursor after it. Assumes nothing beyond the plan check's answer.
use Prim.Native.Nat.{ℕ, ◌+◌, ◌-◌, ◌≤◌, ◌<◌}
use mathlib.Core.Path.{◌≡◌, refl, sym, ap, subst, ◌∙◌}
use mathlib.Core.List.{List, [], ◌∷◌}
use native.Mathlib.Omega.{arith}
use lib.ListN.{drop}
use types.Run.{OneOf}
use denote.Enum.Declared.{tag_of}
use Rattle.std.specs.declared.result.Result.TheVariants.{Ok as accepted}
use Rattle.plan.specs.Check.{check_of}
use Rattle.plan.specs.Commands.{user_of}
use Rattle.plan.specs.Fields.{mapping_units}
use Rattle.plan.specs.Lists.{one_of}
use Rattle.plan.specs.CommandLists.{next_of, nth_user}
use Rattle.plan.specs.declared.Plan.{Plan}
use Rattle.plan.specs.declared.User.{User}
use Rattle.plan.proofs.Counts.{units-most, his-most, users-most}
use Rattle.plan.proofs.OneOf.{not_in}
use Rattle.plan.proofs.Valid.{valid}
use Rattle.layout.specs.declared.Mark.TheVariants.{Primary, Secondary}
use Rattle.payload.specs.Sections.{bytes_of}
use Rattle.payload.specs.Payload.{heads, payload_length, users_start}
use Rattle.payload.proofs.Lengths.{pbch-most, users-fit, length_found}
use Rattle.places.proofs.Numbers.{symbols-most}
use Rattle.schedule.specs.Schedule.{signal_turns, users_first, channel_count, later_at, channel_at, TurnOf, section_of}
use Rattle.schedule.specs.Cursor.{TurnIn, Due, Passing, Follows}
use Rattle.schedule.specs.declared.Section.{Section}
use Rattle.schedule.specs.declared.Turn.{Turn}
use Rattle.schedule.specs.declared.Channel.{Channel}
use Rattle.schedule.specs.declared.Channel.TheVariants.{Crs, Sync, Pbch, Pcfich, Phich, User as UserOf}
use Rattle.schedule.specs.contracts.Channel.{the_type}
use Rattle.schedule.proofs.Slices.{start-room}
use Rattle.schedule.proofs.Turns.{turn-of, signal-is, later-is, unit-is, user-is, passed, due-user, moved}

-- ---- the channel of a turn
module _ {w : List ℕ} {p : Plan} {t : Turn} (due : Due w p t) where
  ok : check_of w ≡ accepted p
  ok = due.answer

  -- of reference signals: a symbol's number is small
  module _ {n : ℕ} (en : n ≡ signal_turns p.cell) (l : t.number < n) where
    pub signal-symbol : t.number < 14
    signal-symbol = omega (arith, symbols-most p.cell)

    pub signal-found : Crs t.number ≡ channel_at w p t.number
    signal-found = sym (signal-is w p t.number (omega arith))

  -- of a later one
  module _ (n : ℕ) where
    pub unit-few : {m : ℕ} → m ≡ mapping_units p.cell → n - 4 < m → n - 4 < 25
    unit-few e l = omega (arith, units-most p.cell (valid w p ok).cell)

    pub unit-found : {m : ℕ} → m ≡ mapping_units p.cell → 4 ≤ n → n - 4 < m → Phich (n - 4) ≡ later_at w p n
    unit-found e l k = let d : 4 + (n - 4) ≡ n = omega arith in sym (ap (later_at w p) (sym d) ∙ unit-is w p (n - 4) (omega arith))

    pub user-found : t.number ≡ signal_turns p.cell + n → {m : ℕ} (u : User) → m ≡ mapping_units p.cell → 4 ≤ n → m ≤ n - 4 → u ≡ user_of (drop t.at w) → UserOf u ≡ later_at w p n
    user-found from u e l k eu =
        let d : 4 + (n - 4) ≡ n = omega arith in
        let i : t.number - users_first p ≡ n - 4 - mapping_units p.cell = omega arith in
        ap UserOf (eu ∙ due-user w p ok t due.turn (omega arith) due.more ∙ ap (nth_user w p) i)
        ∙ sym (ap (later_at w p) (sym d) ∙ user-is w p (n - 4) (omega arith))

  pub later-found : {n : ℕ} {ch : Channel} → n ≡ signal_turns p.cell → n ≤ t.number → ch ≡ later_at w p (t.number - n) → ch ≡ channel_at w p t.number
  later-found {n} e l c = c ∙ sym (later-is w p t.number (t.number - n) (omega arith))

-- ---- the cursor after a turn
no-user : (w : List ℕ) (p : Plan) (n : ℕ) (ch : Channel) → OneOf (0 ∷ 1 ∷ 2 ∷ 3 ∷ 4 ∷ []) (tag_of the_type ch) → TurnOf w p n ch → n < users_first p
unfolding TurnOf one_of
no-user w p n (Crs s) k h = omega arith
no-user w p n (Sync Primary) k h = omega arith
no-user w p n (Sync Secondary) k h = omega arith
no-user w p n Pbch k h = omega arith
no-user w p n Pcfich k h = omega arith
no-user w p n (Phich m) k h = omega arith
no-user w p n (UserOf u) k h = absurd (not_in (0 ∷ 1 ∷ 2 ∷ 3 ∷ 4 ∷ []) 5 k refl)

-- no payload is long
pub payload-few : (w : List ℕ) (p : Plan) → check_of w ≡ accepted p → payload_length w p ≤ 134485
unfolding users_start heads bytes_of
payload-few w p ok =
    let l = length_found w p ok (users_start p) _ refl refl in
    omega (arith, l, users-fit w p ok, pbch-most p.cell p.frame, his-most w p ok)

module _ {w : List ℕ} {p : Plan} {t : Turn} (due : Due w p t) {ch : Channel} (is : ch ≡ channel_at w p t.number) where
  turn : TurnOf w p t.number ch
  turn = subst (TurnOf w p t.number) (sym is) (turn-of w p t.number due.more)

  pub start-few : t.start ≤ 4294967296
  start-few = omega (arith, due.turn.section, start-room w p due.answer w (t.number - users_first p), payload-few w p due.answer)

  pub number-few : t.number < 4000
  unfolding channel_count
  number-few =
      omega (arith, due.more, units-most p.cell (valid w p due.answer).cell, users-most w p due.answer, symbols-most p.cell)

-- what `next` needs, and the turn after it
pub passing :
    {w : List ℕ} {p : Plan} {t : Turn} → Due w p t → {ch : Channel} → ch ≡ channel_at w p t.number → {x : Section} → x ≡ section_of p t.start ch
    → Passing w p t ch x.end
passing due is ex = record { due = due; is = is; ends = ap (λ (s : Section). s.end) ex }

pub after :
    {w : List ℕ} {p : Plan} {t r : Turn} {ch : Channel} {end : ℕ} → Follows w t ch end r → Passing w p t ch end
    → TurnIn w p r × (r.number ≡ t.number + 1)
after f h = (f.turn _ h, f.number)

-- the turn after it, in every plan in which it is due: no user's, and a user's
module _ {w : List ℕ} {t : Turn} {ch : Channel} {end : ℕ} where
  pub next-pass : OneOf (0 ∷ 1 ∷ 2 ∷ 3 ∷ 4 ∷ []) (tag_of the_type ch) → Follows w t ch end (record { number = t.number + 1; at = t.at; start = t.start })
  next-pass k =
      record { number = refl; turn = λ p h. passed w p t _ h.due.turn refl (no-user w p t.number ch k (turn h.due h.is)) refl refl }

  pub next-user : (u : User) → ch ≡ UserOf u → (at : ℕ) → at ≡ next_of w t.at → Follows w t ch end (record { number = t.number + 1; at = at; start = end })
  unfolding TurnOf section_of
  next-user u e at ea =
      record {
        number = refl;
        turn = λ p h.
            let y = subst (TurnOf w p t.number) e (turn h.due h.is) in
            moved w p h.due.answer t h.due.turn y.0 h.due.more _ u refl y.2 ea (h.ends ∙ ap (λ (c : Channel). (section_of p t.start c).end) e);
      }
