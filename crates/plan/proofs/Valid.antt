-- THE LAW OF THE PLAN CHECK, for the crates above: what it answers with a plan for, is valid. Assumes nothing.
use Prim.Native.Nat.{ℕ, zero, suc, ◌+◌, ◌≤◌, ◌<◌}
use mathlib.Core.Path.{◌≡◌, refl, sym, ap, ◌∙◌, subst}
use mathlib.Core.Bool.{Bool, true, false, cond}
use mathlib.Core.List.{List, [], ◌∷◌}
use native.Mathlib.Omega.{arith}
use lib.Dec.{ltb, eqb}
use lib.ListN.{length, drop, length-drop}
use borrow.Author.Tests.{ltb-true, ltb-false}
use Rattle.std.specs.declared.result.Result.{Result}
use Rattle.std.specs.declared.result.Result.TheVariants.{Ok as accepted, Ok, Err as refused, Err}
use Rattle.plan.specs.Commands.{byte, hi_of, user_of, command_of}
use Rattle.plan.specs.Check.{State, begin, state_after, check_of}
use Rattle.plan.specs.Finding.{demand, cell_cause, frame_cause, hi_cause, user_cause, walk_of}
use Rattle.plan.specs.Fields.{phich_fits}
use Rattle.plan.specs.CommandLists.{next_of, his_from, users_from, his_of, users_of}
use Rattle.plan.specs.Loops.{celled, body_state, rest_from, cell_rest, body_rest}
use Rattle.plan.specs.Valid.{CellIn, FrameIn, Valid}
use Rattle.plan.specs.declared.Cell.{Cell}
use Rattle.plan.specs.declared.Frame.{Frame}
use Rattle.plan.specs.declared.Hi.{Hi}
use Rattle.plan.specs.declared.User.{User}
use Rattle.plan.specs.declared.Plan.{Plan}
use Rattle.plan.specs.declared.Command.{Command}
use Rattle.plan.specs.declared.Command.TheVariants.{Cell as cell, Cellx as cellx, Frame as frame, Hi as hi, User as user, End as end, Broken as broken}
use Rattle.plan.specs.declared.Cause.TheVariants.{OutOfOrder}
use Rattle.plan.specs.declared.Stop.{Stop}
use Rattle.plan.specs.declared.Cause.{Cause}
use Rattle.plan.proofs.Entries.{told}
use Rattle.plan.proofs.Reading.{gone}
use Rattle.plan.proofs.CommandLists.{commands-length}
use Rattle.plan.proofs.Kept.{Kept, kept-first, kept-hi, kept-user}
use Rattle.plan.proofs.CauseLaws.{passed, cell_in, frame-in}
use Rattle.plan.proofs.ControlRegion.{three-symbols}
use Rattle.plan.proofs.Verdict.{accepted-both}
use Rattle.plan.proofs.OneCommand.{fits, late, stage-first, stage-second, stage-last, Standing, standing-first, on-no-lists, end-room, end_step, not_last, last}
use Rattle.plan.proofs.OneCommand.{hi-refused, standing-hi, on-more-his, hi-next, hi-step, user-refused, standing-user, on-more-users, user-next, user-step}
use Rattle.plan.proofs.Opening.{cell-first, cellx-first, cell-refused, cell-step, frame-room, frame_refused, frame_step}

-- ---- answers
not-both : {a : Result Plan Stop} {g : Stop} {p : Plan} → a ≡ refused g → a ≡ accepted p → ⊥
not-both e q = let z : ◌≡◌ {A = ℕ} 0 1 = cc in omega arith

-- a command that is not due
not-due : (st : State) → eqb st.stage 4 ≡ false → (w : List ℕ) (n at : ℕ) (x : Command) → command_of (drop at w) ≡ x → fits st.stage x ≡ false →
    {p : Plan} → rest_from w st n at ≡ accepted p → Valid w p
not-due st q w n at x e t r = absurd (not-both (late st q w n at x e t) r)

same-plan : (a b : Plan) → ◌≡◌ {A = Result Plan Stop} (accepted a) (accepted b) → a ≡ b
same-plan a b e = cc

one_byte : (l : List ℕ) → length l ≡ 1 → byte l 0 ≡ 0 → l ≡ 0 ∷ []
one_byte [] h e = absurd (omega arith)
one_byte (b ∷ []) h e = ap (λ (x : ℕ). x ∷ []) e
one_byte (b ∷ x ∷ l) h e = absurd (omega arith)

-- ---- from FRAME on
module _ (w : List ℕ) (p : Plan) (c : Cell) (f : Frame) (ci : CellIn c) (fi : FrameIn f) (fits-region : phich_fits c f ≡ true) (start : ℕ) where
  abbrev His : ℕ → List Hi
  His n = his_from (drop start w) n

  abbrev Users : ℕ → ℕ → List User
  Users mid m = users_from (drop mid w) m

  abbrev Runs : ℕ → ℕ → ℕ → ℕ → Type 0
  Runs n mid m at = body_rest w c f start n mid m at ≡ accepted p

  record Good (n mid m at : ℕ) : Type 0 where
    standing : Standing w start n mid m at
    kept : Kept c (His n) (Users mid m)

  abbrev Rest : ℕ → Type 0
  Rest k = (n mid m at : ℕ) → length w ≤ at + k → Good n mid m at → Runs n mid m at → Valid w p

  -- one more HI, one more USER
  more-hi : (n mid m at : ℕ) → Good n mid m at → (h : Hi) → command_of (drop at w) ≡ hi h → (Ok tt) ≡ demand (eqb m 0) OutOfOrder (hi_cause c (His n) h) → Good (n + 1) (mid + 3) m (next_of w at)
  more-hi n mid m at g h e q =
      record {
        standing = standing-hi w c f start n mid m at h e g.standing q (next_of w at) refl;
        kept = on-more-his w c f start n mid m at h e g.standing q (next_of w at) refl (Kept c) (kept-hi g.kept h (passed (eqb m 0) OutOfOrder _ q).1);
      }

  more-user : (n mid m at : ℕ) → Good n mid m at → (u : User) → command_of (drop at w) ≡ user u → (Ok tt) ≡ user_cause c (Users mid m) u → Good n mid (m + 1) (next_of w at)
  more-user n mid m at g u e q =
      record {
        standing = standing-user w c f start n mid m at u e g.standing (next_of w at) refl;
        kept = on-more-users w c f start n mid m at u e g.standing (next_of w at) refl (Kept c (His n)) (kept-user g.kept u q);
      }

  at-end : (n mid m at : ℕ) (t : Bool) → ltb (at + 1) (length w) ≡ t → Good n mid m at → command_of (drop at w) ≡ end →
      rest_from w (state_after (body_state w c f start n mid m) end) (n + m + 3 + 1) (at + 1) ≡ accepted p → Valid w p
  unfolding his_of users_of
  at-end n mid m at true l g e r =
      absurd (not-both (not_last w c f (record { at = start; count = n }) (record { at = mid; count = m }) _ (at + 1) (ltb-true _ _ l)) r)
  at-end n mid m at false l g e r =
      let s = g.standing in
      let room : at < length w = end-room w c f start n mid m at e in
      let one : length (drop at w) ≡ 1 = omega (arith, length-drop at w, ltb-false (at + 1) (length w) l) in
      subst (λ (x : Plan). Valid w x)
      (same-plan _ p (sym (last w c f (record { at = start; count = n }) (record { at = mid; count = m }) _ (at + 1) s.mid_at (ltb-false _ _ l)) ∙ r))
      (record {
        cell = ci;
        frame = fi;
        region = three-symbols c f fits-region;
        his = g.kept.his;
        pairs = g.kept.pairs;
        users = g.kept.users;
        apart = g.kept.apart;
        his-count = commands-length hi_of (drop start w) n;
        users-count = commands-length user_of (drop mid w) m;
        users-at = s.mid_at;
        inside = omega (arith, s.behind);
        ends = sym s.users-end ∙ one_byte (drop at w) one (told (drop at w) end e).0;
      })

  at-hi : (k n mid m at : ℕ) → Rest k → length w ≤ at + suc k → Good n mid m at → (h : Hi) → command_of (drop at w) ≡ hi h →
      (q : Result Unit Cause) → q ≡ demand (eqb m 0) OutOfOrder (hi_cause c (His n) h) → Runs n mid m at → Valid w p
  at-hi k n mid m at ih l g h e (Err y) q r = absurd (not-both (hi-refused w c f start n mid m at h e y q) r)
  at-hi k n mid m at ih l g h e (Ok tt) q r =
      ih (n + 1) (mid + 3) m (next_of w at) (omega (arith, hi-next w c f start n mid m at h e)) (more-hi n mid m at g h e q)
      (sym (hi-step w c f start n mid m at h e g.standing q (next_of w at) refl) ∙ r)

  at-user : (k n mid m at : ℕ) → Rest k → length w ≤ at + suc k → Good n mid m at → (u : User) → command_of (drop at w) ≡ user u →
      (q : Result Unit Cause) → q ≡ user_cause c (Users mid m) u → Runs n mid m at → Valid w p
  at-user k n mid m at ih l g u e (Err y) q r = absurd (not-both (user-refused w c f start n mid m at u e y q) r)
  at-user k n mid m at ih l g u e (Ok tt) q r =
      ih n mid (m + 1) (next_of w at) (omega (arith, user-next w c f start n mid m at u e, (told (drop at w) (user u) e).1)) (more-user n mid m at g u e q)
      (sym (user-step w c f start n mid m at u e g.standing (next_of w at) refl q) ∙ r)

  never : (n mid m at : ℕ) (x : Command) → command_of (drop at w) ≡ x → fits (cond (eqb m 0) 2 3) x ≡ false → Runs n mid m at → Valid w p
  unfolding body_state
  never n mid m at x e t r = not-due (body_state w c f start n mid m) (stage-last (eqb m 0)) w (n + m + 3) at x e t r

  step : (k n mid m at : ℕ) → Rest k → length w ≤ at + suc k → Good n mid m at → (x : Command) → command_of (drop at w) ≡ x → Runs n mid m at → Valid w p
  step k n mid m at ih l g (cell y) e r = never n mid m at (cell y) e (stage-first (eqb m 0)) r
  step k n mid m at ih l g (cellx y) e r = never n mid m at (cellx y) e (stage-first (eqb m 0)) r
  step k n mid m at ih l g (frame y) e r = never n mid m at (frame y) e (stage-second (eqb m 0)) r
  step k n mid m at ih l g (hi h) e r = at-hi k n mid m at ih l g h e (demand (eqb m 0) OutOfOrder (hi_cause c (His n) h)) refl r
  step k n mid m at ih l g (user u) e r = at-user k n mid m at ih l g u e (user_cause c (Users mid m) u) refl r
  step k n mid m at ih l g end e r = at-end n mid m at (ltb (at + 1) (length w)) refl g e (sym (end_step w c f start n mid m at e) ∙ r)
  step k n mid m at ih l g broken e r = never n mid m at broken e refl r

  rest : (k : ℕ) → Rest k
  rest zero n mid m at l g r =
      let z : length w ≤ at = omega arith in
      never n mid m at broken (sym (gone w at z)) refl r
  rest (suc k) n mid m at l g r = step k n mid m at (rest k) l g (command_of (drop at w)) refl r

  from-frame : start ≤ length w → Runs 0 start 0 start → Valid w p
  from-frame h r =
      rest (length w) 0 start 0 start (omega arith)
      (record { standing = standing-first w start h; kept = on-no-lists w start (Kept c) (kept-first c) })
      r

-- ---- CELL or CELLX, and FRAME
module _ (w : List ℕ) (p : Plan) where
  by-frame : (c : Cell) (at : ℕ) (f : Frame) → CellIn c → command_of (drop at w) ≡ frame f → (t : Result Unit Cause) → t ≡ frame_cause c f → rest_from w (celled c at) 2 at ≡ accepted p → Valid w p
  by-frame c at f ci e (Ok tt) o r =
      let i = frame-in c f o in
      from-frame w p c f ci i.0 i.1 (at + 5) (frame-room w c at f e) (frame_step w c at f e o refl ∙ r)
  by-frame c at f ci e (Err k) o r = absurd (not-both (sym (frame_refused w c at f e o refl refl)) r)

  second : (c : Cell) (at : ℕ) → CellIn c → (x : Command) → command_of (drop at w) ≡ x → rest_from w (celled c at) 2 at ≡ accepted p → Valid w p
  unfolding celled
  second c at ci (cell y) e r = not-due (celled c at) refl w 2 at (cell y) e refl r
  second c at ci (cellx y) e r = not-due (celled c at) refl w 2 at (cellx y) e refl r
  second c at ci (frame f) e r = by-frame c at f ci e (frame_cause c f) refl r
  second c at ci (hi y) e r = not-due (celled c at) refl w 2 at (hi y) e refl r
  second c at ci (user y) e r = not-due (celled c at) refl w 2 at (user y) e refl r
  second c at ci end e r = not-due (celled c at) refl w 2 at end e refl r
  second c at ci broken e r = not-due (celled c at) refl w 2 at broken e refl r

  by-cell : (c : Cell) (at : ℕ) (t : Result Unit Cause) → t ≡ cell_cause c → cell_rest w c at ≡ accepted p → Valid w p
  by-cell c at (Ok tt) o r = second c at (cell_in c o) (command_of (drop at w)) refl (cell-step w c at o refl ∙ r)
  by-cell c at (Err k) o r = absurd (not-both (sym (cell-refused w c at o refl refl)) r)

  first : (x : Command) → command_of w ≡ x → walk_of w ≡ accepted p → Valid w p
  unfolding walk_of begin
  first (cell c) e r = by-cell c 7 (cell_cause c) refl (cell-first w c e ∙ r)
  first (cellx c) e r = by-cell c 8 (cell_cause c) refl (cellx-first w c e ∙ r)
  first (frame y) e r = not-due begin refl w 1 0 (frame y) e refl r
  first (hi y) e r = not-due begin refl w 1 0 (hi y) e refl r
  first (user y) e r = not-due begin refl w 1 0 (user y) e refl r
  first end e r = not-due begin refl w 1 0 end e refl r
  first broken e r = not-due begin refl w 1 0 broken e refl r

  -- THE LAW: an accepted plan is valid
  pub valid : check_of w ≡ accepted p → Valid w p
  valid r = first (command_of w) refl (accepted-both w p r)
