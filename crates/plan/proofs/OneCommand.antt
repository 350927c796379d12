-- One command of the check: what the explanation from a position on is, by the command there and its cause. Assumes nothing.
use Prim.Native.Nat.{ℕ, ◌+◌, ◌*◌, ◌≤◌, ◌<◌}
use mathlib.Core.Path.{◌≡◌, refl, sym, ap, ap₂, ◌∙◌, subst}
use mathlib.Core.Bool.{Bool, true, false, cond}
use mathlib.Core.List.{List, [], ◌∷◌, ◌++◌}
use native.Mathlib.Omega.{arith}
use types.Run.{OneOf}
use denote.Enum.Declared.{tag_of}
use lib.Dec.{eqb}
use lib.ListN.{length, drop, length-drop, drop_of_length-le}
use lib.Seq.{drop-drop}
use borrow.Author.Tests.{eq-eqb, ne_eqb, eqb-true}
use Rattle.std.specs.declared.result.Result.{Result}
use Rattle.std.specs.declared.result.Result.TheVariants.{Ok as accepted, Ok, Err as refused, Err}
use Rattle.plan.specs.Lists.{one_of}
use Rattle.plan.specs.Commands.{byte, hi_of, user_of, size_of, command_of, commands_after, commands}
use Rattle.plan.specs.Check.{State, due, state_after, plan_of}
use Rattle.plan.specs.Finding.{demand, hi_cause, user_cause, command_bytes, broken_cause, in_order, field_cause, cause_at, cause_of, found_at, refused_at, stop_at, walk_from}
use Rattle.plan.specs.CommandLists.{commands_from, past, next_of, his_from, users_from}
use Rattle.plan.specs.Loops.{body_state, rest_from, body_rest, plan_rest, late_for, late_cause, EndDue}
use Rattle.plan.specs.declared.Cell.{Cell}
use Rattle.plan.specs.declared.Frame.{Frame}
use Rattle.plan.specs.declared.Hi.{Hi}
use Rattle.plan.specs.declared.User.{User}
use Rattle.plan.specs.declared.CommandList.{CommandList}
use Rattle.plan.specs.declared.Plan.{Plan}
use Rattle.plan.specs.declared.Command.{Command}
use Rattle.plan.specs.declared.Command.TheVariants.{Cell as cell, Cellx as cellx, Frame as frame, Hi as hi, User as user, End as end, Broken as broken}
use Rattle.plan.specs.declared.Cause.{Cause}
use Rattle.plan.specs.declared.Cause.TheVariants.{Unknown, CutOff, NoEnd, OutOfOrder, AfterEnd}
use Rattle.plan.specs.declared.Stop.{Stop}
use Rattle.plan.specs.contracts.Command.{the_type}
use Rattle.plan.proofs.OneOf.{not_in}
use Rattle.plan.proofs.Entries.{told, next}
use Rattle.plan.proofs.Reading.{next-in, drop-next}
use Rattle.plan.proofs.CommandLists.{commands-length, commands-none, commands-more, past_more, past-none}
use Rattle.plan.proofs.CauseLaws.{passed}

-- ---- any state: the explanation from command number n on, at position at
module _ (w : List ℕ) (st : State) (n at : ℕ) (x : Command) (e : command_of (drop at w) ≡ x) (h : 0 < length (drop at w)) where
  abbrev there : List ℕ
  there = drop at w

  opened : rest_from w st n at ≡ stop_at (cause_of st there x) n at (walk_from w (state_after st x) (n + 1) (at + size_of there) (commands (drop (size_of there) there)))
  unfolding walk_from
  opened = rw (next there h, e) refl

  pub stopped : (k : Cause) → cause_of st there x ≡ Err k → rest_from w st n at ≡ refused_at n at k
  stopped k q = opened ∙ rw q refl

  module _ (s : State) (es : state_after st x ≡ s) (m to : ℕ) (em : n + 1 ≡ m) (et : at + size_of there ≡ to) where
    pub unless-stopped : rest_from w st n at ≡ stop_at (cause_of st there x) n at (rest_from w s m to)
    unless-stopped = opened ∙ rw (es, em, drop-drop (size_of there) at w, et) refl

    pub stepped : cause_of st there x ≡ (Ok tt) → rest_from w st n at ≡ rest_from w s m to
    stepped q = unless-stopped ∙ rw q refl

-- a command that is not due, or that is missing, before END
abbrev pub fits : ℕ → Command → Bool
fits stage (cell c) = eqb stage 0
fits stage (cellx c) = eqb stage 0
fits stage (frame f) = eqb stage 1
fits stage (hi h) = eqb stage 2
fits stage (user u) = due stage
fits stage end = due stage
fits stage broken = false

module _ (st : State) (q : eqb st.stage 4 ≡ false) where
  late_is : (l : List ℕ) (x : Command) → fits st.stage x ≡ false → cause_of st l x ≡ Err (late_for l x)
  unfolding cause_at in_order field_cause broken_cause
  late_is l (cell y) f = rw (q, f) refl
  late_is l (cellx y) f = rw (q, f) refl
  late_is l (frame y) f = rw (q, f) refl
  late_is l (hi y) f = rw (q, f) refl
  late_is l (user y) f = rw (q, f) refl
  late_is l end f = rw (q, f) refl
  late_is l broken f = rw q (by (one_of (byte l 0) command_bytes))
    where
      by : (t : Bool) → demand t Unknown (Err CutOff) ≡ Err (cond t CutOff Unknown)
      by true = refl
      by false = refl

  module _ (w : List ℕ) (n at : ℕ) where
    missing : drop at w ≡ [] → rest_from w st n at ≡ refused_at n at NoEnd
    unfolding walk_from commands_after
    missing e = rw (e, q) refl

    by_bytes : (l : List ℕ) → drop at w ≡ l → (x : Command) → command_of l ≡ x → fits st.stage x ≡ false → rest_from w st n at ≡ refused_at n at (late_cause l)
    unfolding late_cause
    by_bytes [] e x ex f = missing e
    by_bytes (b ∷ l) e x ex f =
        stopped w st n at x (rw e ex) (rw e (omega arith)) (late_for (b ∷ l) (command_of (b ∷ l))) (late_is (drop at w) x f ∙ rw (e, ← ex) refl)

    pub late : (x : Command) → command_of (drop at w) ≡ x → fits st.stage x ≡ false → rest_from w st n at ≡ refused_at n at (late_cause (drop at w))
    late x e f = by_bytes (drop at w) refl x e f

-- ---- the stage among the HIs and the USERs
stage-hi : (t : Bool) → eqb (cond t 2 3) 2 ≡ t
stage-hi true = refl
stage-hi false = refl

stage-due : (t : Bool) → due (cond t 2 3) ≡ true
stage-due true = refl
stage-due false = refl

pub stage-first : (t : Bool) → eqb (cond t 2 3) 0 ≡ false
stage-first true = refl
stage-first false = refl

pub stage-second : (t : Bool) → eqb (cond t 2 3) 1 ≡ false
stage-second true = refl
stage-second false = refl

pub stage-last : (t : Bool) → eqb (cond t 2 3) 4 ≡ false
stage-last true = refl
stage-last false = refl

abbrev made : ℕ → Cell → Frame → ℕ → List Hi → List User → State
made k c f start hs us = record { stage = k; cell = c; frame = f; start = start; his = hs; users = us }

-- where the check stands: after n HIs from start on, and m USERs from mid on, at position at
pub record Standing (w : List ℕ) (start n mid m at : ℕ) : Type 0 where
  pub his-end : drop mid w ≡ past (drop start w) n
  pub users-end : drop at w ≡ past (drop mid w) m
  pub mid_at : mid ≡ start + 3 * n
  pub behind : mid + 6 * m ≤ at
  pub room : at ≤ length w

pub standing-first : (w : List ℕ) (start : ℕ) → start ≤ length w → Standing w start 0 start 0 start
standing-first w start h =
    record {
      his-end = sym (past-none 0 (drop start w) refl);
      users-end = sym (past-none 0 (drop start w) refl);
      mid_at = omega arith;
      behind = omega arith;
      room = h;
    }

pub on-no-lists : (w : List ℕ) (start : ℕ) (F : List Hi → List User → Type 0) → F [] [] → F (his_from (drop start w) 0) (users_from (drop start w) 0)
unfolding commands_from
on-no-lists w start F x = x

module _ (w : List ℕ) (c : Cell) (f : Frame) (start n mid m at : ℕ) where
  abbrev here : List ℕ
  here = drop at w

  abbrev St : State
  St = body_state w c f start n mid m

  abbrev Rest : Result Plan Stop
  Rest = body_rest w c f start n mid m at

  abbrev HiC : Hi → Result Unit Cause
  HiC h = demand (eqb m 0) OutOfOrder (hi_cause c (his_from (drop start w) n) h)

  abbrev UserC : User → Result Unit Cause
  UserC u = user_cause c (users_from (drop mid w) m) u

  -- ---- an HI
  module _ (h : Hi) (e : command_of here ≡ hi h) where
    hi-some : 0 < length here
    hi-some = omega (arith, (told here (hi h) e).2)

    hi-cause : cause_of St here (hi h) ≡ HiC h
    unfolding body_state cause_at in_order field_cause
    hi-cause = rw (stage-last, stage-hi) refl

    pub hi-refused : (k : Cause) → Err k ≡ HiC h → Rest ≡ refused_at (n + m + 3) at k
    hi-refused k q = stopped w St (n + m + 3) at (hi h) e hi-some k (hi-cause ∙ sym q)

    pub hi-next : next_of w at ≡ at + 3
    hi-next = sym (next-in w at 3 (sym (told here (hi h) e).1) (omega (arith, (told here (hi h) e).2, length-drop at w)))

    module _ (g : Standing w start n mid m at) where
      pub hi-room : at + 3 ≤ length w
      hi-room = omega (arith, (told here (hi h) e).2, length-drop at w)

      module _ (q : (Ok tt) ≡ HiC h) (to : ℕ) (et : to ≡ next_of w at) where
        none : m ≡ 0
        none = eqb-true m 0 (passed (eqb m 0) OutOfOrder _ q).0

        at_mid : here ≡ drop mid w
        at_mid = g.users-end ∙ past-none m (drop mid w) none

        -- the bytes after this HI
        here-next : drop (size_of here) here ≡ drop (mid + 3) w
        here-next = rw ((told here (hi h) e).1, at_mid) (drop-drop 3 mid w)

        to-mid : drop to w ≡ drop (mid + 3) w
        to-mid = rw et (drop-next w at) ∙ here-next

        pub standing-hi : Standing w start (n + 1) (mid + 3) m to
        standing-hi =
            record {
              his-end = sym here-next ∙ ap (λ (l : List ℕ). drop (size_of l) l) (at_mid ∙ g.his-end) ∙ sym (past_more n (drop start w));
              users-end = to-mid ∙ sym (past-none m (drop (mid + 3) w) none);
              mid_at = omega (arith, g.mid_at);
              behind = omega (arith, g.behind, hi-next, et, none);
              room = omega (arith, hi-room, hi-next, et);
            }

        more-his : his_from (drop start w) n ++ (h ∷ []) ≡ his_from (drop start w) (n + 1)
        more-his =
            ap (λ (x : Hi). his_from (drop start w) n ++ (x ∷ [])) ((told here (hi h) e).0 ∙ ap hi_of (at_mid ∙ g.his-end))
            ∙ sym (commands-more hi_of n (drop start w))

        -- what holds of the HIs with this one, and of the USERs, of which there are none
        pub on-more-his : (F : List Hi → List User → Type 0) → F (his_from (drop start w) n ++ (h ∷ [])) (users_from (drop mid w) m) →
            F (his_from (drop start w) (n + 1)) (users_from (drop (mid + 3) w) m)
        on-more-his F x = rw (← more-his) (rw (commands-none user_of (drop mid w) (drop (mid + 3) w) m none) at x)

        after-hi : state_after St (hi h) ≡ body_state w c f start (n + 1) (mid + 3) m
        unfolding state_after body_state
        after-hi =
            let k : ◌≡◌ {A = ℕ} 2 (cond (eqb m 0) 2 3) = rw (eq-eqb m 0 none) refl in
            ap (λ (x : ℕ). made x c f start (his_from (drop start w) n ++ (h ∷ [])) (users_from (drop mid w) m)) k
            ∙ ap₂ (made (cond (eqb m 0) 2 3) c f start) more-his (commands-none user_of (drop mid w) (drop (mid + 3) w) m none)

        pub hi-step : Rest ≡ body_rest w c f start (n + 1) (mid + 3) m to
        hi-step =
            stepped w St (n + m + 3) at (hi h) e hi-some _ after-hi (n + 1 + m + 3) to (omega arith) (omega (arith, et, hi-next, (told here (hi h) e).1))
            (hi-cause ∙ sym q)

  -- ---- a USER
  module _ (u : User) (e : command_of here ≡ user u) where
    user-some : 0 < length here
    user-some = omega (arith, (told here (user u) e).1, (told here (user u) e).2)

    user-cause : cause_of St here (user u) ≡ UserC u
    unfolding body_state cause_at in_order field_cause
    user-cause = rw (stage-last, stage-due) refl

    pub user-refused : (k : Cause) → Err k ≡ UserC u → Rest ≡ refused_at (n + m + 3) at k
    user-refused k q = stopped w St (n + m + 3) at (user u) e user-some k (user-cause ∙ sym q)

    pub user-next : next_of w at ≡ at + size_of here
    user-next = sym (next-in w at (size_of here) refl (omega (arith, (told here (user u) e).1, (told here (user u) e).2, length-drop at w)))

    module _ (g : Standing w start n mid m at) where
      pub user-room : at + 6 ≤ length w
      user-room = omega (arith, (told here (user u) e).1, (told here (user u) e).2, length-drop at w)

      module _ (to : ℕ) (et : to ≡ next_of w at) where
        to-next : drop to w ≡ drop (size_of here) here
        to-next = rw et (drop-next w at)

        pub standing-user : Standing w start n mid (m + 1) to
        standing-user =
            record {
              his-end = g.his-end;
              users-end = to-next ∙ ap (λ (l : List ℕ). drop (size_of l) l) g.users-end ∙ sym (past_more m (drop mid w));
              mid_at = g.mid_at;
              behind = omega (arith, g.behind, user-next, et, (told here (user u) e).1);
              room = omega (arith, user-next, et, (told here (user u) e).1, (told here (user u) e).2, length-drop at w);
            }

        more-users : users_from (drop mid w) m ++ (u ∷ []) ≡ users_from (drop mid w) (m + 1)
        more-users =
            ap (λ (x : User). users_from (drop mid w) m ++ (x ∷ [])) ((told here (user u) e).0 ∙ ap user_of g.users-end)
            ∙ sym (commands-more user_of m (drop mid w))

        pub on-more-users : (F : List User → Type 0) → F (users_from (drop mid w) m ++ (u ∷ [])) → F (users_from (drop mid w) (m + 1))
        on-more-users F x = subst F more-users x

        after-user : state_after St (user u) ≡ body_state w c f start n mid (m + 1)
        unfolding state_after body_state
        after-user =
            let k : ◌≡◌ {A = ℕ} 3 (cond (eqb (m + 1) 0) 2 3) = rw (ne_eqb (m + 1) 0 (λ z. omega arith)) refl in
            ap₂ (λ (x : ℕ) (us : List User). made x c f start (his_from (drop start w) n) us) k more-users

        pub user-step : (Ok tt) ≡ UserC u → Rest ≡ body_rest w c f start n mid (m + 1) to
        user-step q =
            stepped w St (n + m + 3) at (user u) e user-some _ after-user (n + (m + 1) + 3) to (omega arith) (sym (et ∙ user-next)) (user-cause ∙ sym q)

  -- ---- END
  module _ (e : command_of here ≡ end) where
    pub end-room : at < length w
    end-room = omega (arith, (told here end e).2, length-drop at w)

    end-cause : cause_of St here end ≡ (Ok tt)
    unfolding body_state cause_at in_order field_cause
    end-cause = rw (stage-last, stage-due) refl

    pub end_step : Rest ≡ rest_from w (state_after St end) (n + m + 3 + 1) (at + 1)
    end_step =
        stepped w St (n + m + 3) at end e (omega (arith, (told here end e).2)) _ refl _ (at + 1) refl (omega (arith, (told here end e).1)) end-cause

-- ---- after END: a command, or none
module _ (w : List ℕ) (c : Cell) (f : Frame) (his users : CommandList) (k to : ℕ) where
  abbrev Ended : State
  Ended = state_after (body_state w c f his.at his.count users.at users.count) end

  pub not_last : to < length w → rest_from w Ended k to ≡ refused_at k to AfterEnd
  unfolding cause_at state_after
  not_last h = stopped w Ended k to (command_of (drop to w)) refl (omega (arith, length-drop to w)) AfterEnd refl

  pub last : users.at ≡ his.at + 3 * his.count → length w ≤ to → rest_from w Ended k to ≡ accepted (record { cell = c; frame = f; his = his; users = users })
  unfolding walk_from commands_after plan_of body_state state_after
  last e h =
      rw (drop_of_length-le w h, commands-length hi_of (drop his.at w) his.count, commands-length user_of (drop users.at w) users.count, ← e) refl

-- ---- where END is due
module _ {w : List ℕ} {p : Plan} {at : ℕ} (d : EndDue w p at) where
  abbrev n : ℕ
  n = p.his.count + p.users.count + 3

  abbrev Due : State
  Due = body_state w p.cell p.frame p.his.at p.his.count p.users.at p.users.count

  module _ (e : command_of (drop at w) ≡ end) where
    step : plan_rest w p at ≡ rest_from w (state_after Due end) (n + 1) (at + 1)
    step = end_step w p.cell p.frame p.his.at p.his.count p.users.at p.users.count at e

    pub end_more : at + 1 < length w → {g : Stop} → g ≡ found_at (n + 1) (at + 1) AfterEnd → refused g ≡ plan_rest w p at
    end_more l eg = ap refused eg ∙ sym (step ∙ not_last w p.cell p.frame p.his p.users (n + 1) (at + 1) l)

    pub end-last : length w ≤ at + 1 → accepted p ≡ plan_rest w p at
    end-last l = sym (step ∙ last w p.cell p.frame p.his p.users (n + 1) (at + 1) d.mid_at l)

  pub end-late : {x : Command} → command_of (drop at w) ≡ x → OneOf (0 ∷ 1 ∷ 2 ∷ 3 ∷ 4 ∷ 6 ∷ []) (tag_of the_type x) →
      {k : Cause} → k ≡ late_cause (drop at w) → {g : Stop} → g ≡ found_at n at k → refused g ≡ plan_rest w p at
  unfolding one_of body_state
  end-late {x} e h ek eg = ap refused eg ∙ ap (refused_at n at) ek ∙ sym (late Due (stage-last (eqb p.users.count 0)) w n at x e (by x e h))
    where
      by : (x : Command) → command_of (drop at w) ≡ x → OneOf (0 ∷ 1 ∷ 2 ∷ 3 ∷ 4 ∷ 6 ∷ []) (tag_of the_type x) → fits Due.stage x ≡ false
      by (cell y) e h = stage-first (eqb p.users.count 0)
      by (cellx y) e h = stage-first (eqb p.users.count 0)
      by (frame y) e h = stage-second (eqb p.users.count 0)
      by (hi y) e h = stage-hi (eqb p.users.count 0) ∙ ne_eqb p.users.count 0 (λ z. d.no-hi z y e)
      by (user y) e h = absurd (d.no-user y e)
      by end e h = absurd (not_in (0 ∷ 1 ∷ 2 ∷ 3 ∷ 4 ∷ 6 ∷ []) 5 h refl)
      by broken e h = refl
