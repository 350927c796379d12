-- The plan check's answer is that of the explanation, and the offset is that of the command with the number. Assumes nothing.
use Prim.Native.Nat.{ℕ, ◌+◌, ◌-◌}
use mathlib.Core.Path.{◌≡◌, refl, sym, ap, ◌∙◌}
use mathlib.Core.Bool.{Bool, true, false, not, cond, ◌&&◌}
use mathlib.Core.List.{List, [], ◌∷◌}
use native.Mathlib.Omega.{arith}
use lib.Dec.{eqb}
use lib.ListN.{drop}
use lib.Seq.{drop-drop}
use borrow.Author.Tests.{eqb-true}
use Rattle.std.specs.declared.result.Result.{Result}
use Rattle.std.specs.declared.result.Result.TheVariants.{Ok as accepted, Ok, Err as refused, Err}
use Rattle.std.specs.declared.option.Option.{Option}
use Rattle.std.specs.declared.option.Option.TheVariants.{None, Some}
use Rattle.plan.specs.Lists.{one_of}
use Rattle.plan.specs.Commands.{byte, size_of, commands}
use Rattle.plan.specs.Fields.{cell_ok, frame_ok, phich_fits, hi_ok, user_ok}
use Rattle.plan.specs.Check.{State, begin, need, hi_fault, user_fault, due, fault, state_after, plan_of, unless, run, check_of}
use Rattle.plan.specs.CommandLists.{past}
use Rattle.plan.specs.declared.Cell.{Cell}
use Rattle.plan.specs.declared.Frame.{Frame}
use Rattle.plan.specs.declared.Hi.{Hi}
use Rattle.plan.specs.declared.User.{User}
use Rattle.plan.specs.declared.Plan.{Plan}
use Rattle.plan.specs.declared.Command.{Command}
use Rattle.plan.specs.declared.Command.TheVariants.{Cell as cell, Cellx as cellx, Frame as frame, Hi as hi, User as user, End as end, Broken as broken}
use Rattle.plan.specs.declared.Refusal.{Refusal}
use Rattle.plan.specs.declared.Refusal.TheVariants.{Unreadable, Order, CellField, FrameField, ShortRegion}
use Rattle.plan.proofs.CommandLists.{past_more, past-none}
use Rattle.plan.specs.Finding.{cause_refusal, demand, cell_cause, frame_cause, hi_cause, user_cause, command_bytes, broken_cause}
use Rattle.plan.specs.Finding.{in_order, field_cause, cause_at, cause_of, refused_at, stop_at, walk_from, walk_of}
use Rattle.plan.specs.Finding.{explained_by, finding_of, walk_answer, answer_of, Named}
use Rattle.plan.specs.declared.Cause.{Cause}
use Rattle.plan.specs.declared.Cause.TheVariants.{NoEnd, OutOfOrder, AfterEnd}
use Rattle.plan.specs.declared.Stop.{Stop}
use Rattle.plan.proofs.CauseLaws.{none-clash}

-- ---- the fault that a reason is
abbrev fault_for : Result Unit Cause → Option Refusal
fault_for (Ok tt) = None
fault_for (Err c) = Some (cause_refusal c)

fault-demand : (t : Bool) (c : Cause) (r : Result Unit Cause) → fault_for (demand t c r) ≡ need t (cause_refusal c) (fault_for r)
fault-demand true c r = refl
fault-demand false c r = refl

need-and : (s t : Bool) (r : Refusal) (f : Option Refusal) → need (s && t) r f ≡ need s r (need t r f)
need-and true t r f = refl
need-and false t r f = refl

need-same : (t : Bool) (r : Refusal) → need t r (Some r) ≡ Some r
need-same true r = refl
need-same false r = refl

-- a test that the next test implies changes nothing
need-more : (s t : Bool) (r : Refusal) (f : Option Refusal) → (t ≡ true → s ≡ true) → need s r (need t r f) ≡ need t r f
need-more true t r f h = refl
need-more false true r f h = let e : ◌≡◌ {A = Bool} false true = h refl in let z : ◌≡◌ {A = ℕ} 0 1 = cc in absurd (omega arith)
need-more false false r f h = refl

-- ---- fields
cell-fault : (c : Cell) → fault_for (cell_cause c) ≡ need (cell_ok c) CellField None
unfolding cell_cause cell_ok
cell-fault c = simp (fault-demand, need-and)

frame-fault : (c : Cell) (f : Frame) → fault_for (frame_cause c f) ≡ need (frame_ok f) FrameField (need (phich_fits c f) ShortRegion None)
unfolding frame_cause frame_ok
frame-fault c f = simp (fault-demand, need-and)

hi-fault : (c : Cell) (hs : List Hi) (h : Hi) → fault_for (hi_cause c hs h) ≡ hi_fault c hs h
unfolding hi_cause hi_fault hi_ok
hi-fault c hs h = simp (fault-demand, need-and)

user-fault : (c : Cell) (us : List User) (u : User) → fault_for (user_cause c us u) ≡ user_fault c us u
unfolding user_cause user_fault user_ok
user-fault c us u = rw (none-clash u us) (simp (fault-demand, need-and))

broken-fault : (l : List ℕ) → fault_for (broken_cause l) ≡ Some Unreadable
unfolding broken_cause
broken-fault l = fault-demand (one_of (byte l 0) command_bytes) _ _ ∙ need-same (one_of (byte l 0) command_bytes) Unreadable

-- ---- order: what is due before END is not after END
early : (m n : ℕ) → not (eqb m 4) ≡ true → eqb n m ≡ true → not (eqb n 4) ≡ true
early m n h t = rw (eqb-true n m t) h

due-early : (n : ℕ) → due n ≡ true → not (eqb n 4) ≡ true
due-early n t = by (eqb n 2) refl
  where
    by : (b : Bool) → eqb n 2 ≡ b → not (eqb n 4) ≡ true
    by true e = early 2 n refl e
    by false e = early 3 n refl (rw e at t)

ordered : (s t : Bool) (r : Result Unit Cause) → (t ≡ true → s ≡ true) → fault_for (demand s AfterEnd (demand t OutOfOrder r)) ≡ need t Order (fault_for r)
ordered s t r h = rw (fault-demand s, fault-demand t) (need-more s t Order (fault_for r) h)

cause-fault : (st : State) (l : List ℕ) (x : Command) → fault_for (cause_of st l x) ≡ fault st x
unfolding cause_at in_order field_cause fault
cause-fault st l (cell c) = ordered _ _ _ (early 0 st.stage refl) ∙ rw (cell-fault c) refl
cause-fault st l (cellx c) = ordered _ _ _ (early 0 st.stage refl) ∙ rw (cell-fault c) refl
cause-fault st l (frame f) = ordered _ _ _ (early 1 st.stage refl) ∙ rw (frame-fault st.cell f) refl
cause-fault st l (hi h) = ordered _ _ _ (early 2 st.stage refl) ∙ rw (hi-fault st.cell st.his h) refl
cause-fault st l (user u) = ordered _ _ _ (due-early st.stage) ∙ rw (user-fault st.cell st.users u) refl
cause-fault st l end = ordered _ _ _ (due-early st.stage)
cause-fault st l broken = rw (fault-demand (not (eqb st.stage 4)), broken-fault l) refl

-- ---- command by command
answer-stop : (r : Result Unit Cause) (n at : ℕ) (a : Result Plan Stop) (b : Result Plan Refusal) → walk_answer a ≡ b → walk_answer (stop_at r n at a) ≡ unless (fault_for r) b
answer-stop (Ok tt) n at a b h = h
answer-stop (Err c) n at a b h = refl

answer-last : (t : Bool) (n at : ℕ) (p : Plan) → walk_answer (cond t (accepted p) (refused_at n at NoEnd)) ≡ cond t (accepted p) (refused Unreadable)
answer-last true n at p = refl
answer-last false n at p = refl

answers : (w : List ℕ) (xs : List Command) (st : State) (n at : ℕ) → walk_answer (walk_from w st n at xs) ≡ run st xs
unfolding walk_from run
answers w [] st n at = answer-last (eqb st.stage 4) n at (plan_of st)
answers w (x ∷ xs) st n at =
    rw (← cause-fault st (drop at w) x)
    (answer-stop (cause_of st (drop at w) x) n at _ _ (answers w xs (state_after st x) (n + 1) (at + size_of (drop at w))))

-- the plan check's answer is that of the walk
pub walked-refusal : (w : List ℕ) → walk_answer (walk_of w) ≡ check_of w
unfolding walk_of check_of
walked-refusal w = answers w (commands w) begin 1 0

pub accepted-both : (w : List ℕ) (p : Plan) → check_of w ≡ accepted p → walk_of w ≡ accepted p
accepted-both w p e = by (walk_of w) (walked-refusal w ∙ e)
  where
    by : (a : Result Plan Stop) → walk_answer a ≡ accepted p → a ≡ accepted p
    by (accepted q) h = cc
    by (refused s) h = cc

-- THE LAW: the explanation has the plan exactly where the plan check accepts it, and else its refusal is the plan check's
pub explained-refusal : (w : List ℕ) → answer_of (finding_of w) ≡ check_of w
unfolding finding_of
explained-refusal w = by (walk_of w) ∙ walked-refusal w
  where
    by : (a : Result Plan Stop) → answer_of (explained_by w a) ≡ walk_answer a
    by (accepted p) = refl
    by (refused s) = refl

-- ---- the number, the offset and the cause: where the walk stops
abbrev Placed : List ℕ → Result Plan Stop → Type 0
Placed w (accepted p) = Unit {0}
Placed w (refused s) = drop s.offset w ≡ past w (s.command - 1)

place-stop : (w : List ℕ) (r : Result Unit Cause) (n at : ℕ) (a : Result Plan Stop) → drop at w ≡ past w (n - 1) → Placed w a → Placed w (stop_at r n at a)
place-stop w (Ok tt) n at a e h = h
place-stop w (Err c) n at a e h = e

place-last : (w : List ℕ) (t : Bool) (n at : ℕ) (p : Plan) → drop at w ≡ past w (n - 1) → Placed w (cond t (accepted p) (refused_at n at NoEnd))
place-last w true n at p e = tt
place-last w false n at p e = e

-- the command after the one at a position stands where that one ends
pub one_more : (w : List ℕ) (m at : ℕ) → drop at w ≡ past w m → drop (at + size_of (drop at w)) w ≡ past w (m + 1)
one_more w m at e =
    sym (drop-drop (size_of (drop at w)) at w) ∙ ap (λ (l : List ℕ). drop (size_of l) l) e ∙ sym (past_more m w)

places : (w : List ℕ) (xs : List Command) (st : State) (m at : ℕ) → drop at w ≡ past w m → Placed w (walk_from w st (m + 1) at xs)
unfolding walk_from
places w [] st m at e = let z : m ≡ m + 1 - 1 = omega arith in place-last w (eqb st.stage 4) (m + 1) at (plan_of st) (e ∙ ap (past w) z)
places w (x ∷ xs) st m at e =
    let z : m ≡ m + 1 - 1 = omega arith in
    place-stop w (cause_of st (drop at w) x) (m + 1) at _ (e ∙ ap (past w) z) (places w xs (state_after st x) (m + 1) (at + size_of (drop at w)) (one_more w m at e))

-- THE LAW: a refused explanation has the refusal of its cause, and its offset is where the command of its number stands
pub explained-place : (w : List ℕ) → Named w (finding_of w)
unfolding walk_of finding_of
explained-place w = by (walk_of w) (places w (commands w) begin 0 0 (sym (past-none 0 w refl)))
  where
    by : (a : Result Plan Stop) → Placed w a → Named w (explained_by w a)
    by (accepted p) h = tt
    by (refused s) h = (refl, h)
