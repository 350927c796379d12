-- The first two commands, CELL or CELLX and FRAME. Assumes nothing.
use Prim.Native.Nat.{ℕ, ◌+◌, ◌≤◌, ◌<◌}
use mathlib.Core.Path.{◌≡◌, refl, sym, ap, ◌∙◌}
use mathlib.Core.Bool.{false}
use mathlib.Core.List.{List, [], ◌∷◌}
use native.Mathlib.Omega.{arith}
use lib.ListN.{length, drop, length-drop}
use types.Run.{OneOf}
use denote.Enum.Declared.{tag_of}
use Rattle.std.specs.declared.result.Result.{Result}
use Rattle.std.specs.declared.result.Result.TheVariants.{Ok, Err as refused, Err}
use Rattle.plan.specs.Lists.{one_of}
use Rattle.plan.specs.Commands.{size_of, command_of}
use Rattle.plan.specs.Check.{begin, state_after}
use Rattle.plan.specs.Finding.{cell_cause, frame_cause, in_order, field_cause, cause_at, cause_of, found_at, refused_at, walk_of}
use Rattle.plan.specs.CommandLists.{commands_from}
use Rattle.plan.specs.Loops.{late_cause, celled, body_state, rest_from, cell_rest, body_rest}
use Rattle.plan.specs.declared.Cell.{Cell}
use Rattle.plan.specs.declared.Frame.{Frame}
use Rattle.plan.specs.declared.Command.{Command}
use Rattle.plan.specs.declared.Command.TheVariants.{Cell as cell, Cellx as cellx, Frame as frame, Hi as hi, User as user, End as end, Broken as broken}
use Rattle.plan.specs.declared.Cause.{Cause}
use Rattle.plan.specs.declared.Stop.{Stop}
use Rattle.plan.specs.declared.Plan.{Plan}
use Rattle.plan.specs.contracts.Command.{the_type}
use Rattle.plan.proofs.OneOf.{not_in}
use Rattle.plan.proofs.Entries.{told}
use Rattle.plan.proofs.OneCommand.{unless-stopped, stopped, stepped, fits, late}

-- ---- before CELL or CELLX
module _ (w : List ℕ) where
  pub late-first : {x : Command} → command_of w ≡ x → OneOf (2 ∷ 3 ∷ 4 ∷ 5 ∷ 6 ∷ []) (tag_of the_type x) →
      {k : Cause} → k ≡ late_cause w → {g : Stop} → g ≡ found_at 1 0 k → refused g ≡ walk_of w
  unfolding walk_of begin one_of
  late-first {x} e h ek eg = ap refused eg ∙ ap (refused_at 1 0) ek ∙ sym (late begin refl w 1 0 x e (by x h))
    where
      by : (x : Command) → OneOf (2 ∷ 3 ∷ 4 ∷ 5 ∷ 6 ∷ []) (tag_of the_type x) → fits 0 x ≡ false
      by (cell y) h = absurd (not_in (2 ∷ 3 ∷ 4 ∷ 5 ∷ 6 ∷ []) 0 h refl)
      by (cellx y) h = absurd (not_in (2 ∷ 3 ∷ 4 ∷ 5 ∷ 6 ∷ []) 1 h refl)
      by (frame y) h = refl
      by (hi y) h = refl
      by (user y) h = refl
      by end h = refl
      by broken h = refl

  module _ (c : Cell) where
    -- a first command x that gives the cell c and has k bytes
    cell_opens : (x : Command) (k : ℕ) → command_of w ≡ x → 0 < length w → cause_of begin w x ≡ cell_cause c → size_of w ≡ k →
        state_after begin x ≡ celled c k → cell_rest w c k ≡ walk_of w
    unfolding walk_of
    cell_opens x k e h ec ek es = sym (unless-stopped w begin 1 0 x e h _ es 2 k refl (omega arith) ∙ rw ec refl)

    pub cell-first : command_of w ≡ cell c → cell_rest w c 7 ≡ walk_of w
    unfolding begin cause_at in_order field_cause state_after celled
    cell-first e = let t = told w (cell c) e in cell_opens (cell c) 7 e (omega (arith, t.2)) refl t.1 refl

    pub cellx-first : command_of w ≡ cellx c → cell_rest w c 8 ≡ walk_of w
    unfolding begin cause_at in_order field_cause state_after celled
    cellx-first e = let t = told w (cellx c) e in cell_opens (cellx c) 8 e (omega (arith, t.2)) refl t.1 refl

    -- its fields; the next command stands at position at
    module _ (at : ℕ) {r : Result Unit Cause} (er : r ≡ cell_cause c) where
      pub cell-refused : {k : Cause} → r ≡ Err k → {g : Stop} → g ≡ found_at 1 0 k → refused g ≡ cell_rest w c at
      cell-refused q eg = ap refused eg ∙ rw (← er, q) refl

      pub cell-step : r ≡ (Ok tt) → rest_from w (celled c at) 2 at ≡ cell_rest w c at
      cell-step q = rw (← er, q) refl

-- ---- before FRAME, which is due at position at
module _ (w : List ℕ) (c : Cell) (at : ℕ) where
  abbrev here : List ℕ
  here = drop at w

  abbrev Rest : Result Plan Stop
  Rest = rest_from w (celled c at) 2 at

  pub late-second : {x : Command} → command_of here ≡ x → OneOf (0 ∷ 1 ∷ 3 ∷ 4 ∷ 5 ∷ 6 ∷ []) (tag_of the_type x) →
      {k : Cause} → k ≡ late_cause here → {g : Stop} → g ≡ found_at 2 at k → refused g ≡ Rest
  unfolding celled one_of
  late-second {x} e h ek eg = ap refused eg ∙ ap (refused_at 2 at) ek ∙ sym (late (celled c at) refl w 2 at x e (by x h))
    where
      by : (x : Command) → OneOf (0 ∷ 1 ∷ 3 ∷ 4 ∷ 5 ∷ 6 ∷ []) (tag_of the_type x) → fits 1 x ≡ false
      by (cell y) h = refl
      by (cellx y) h = refl
      by (frame y) h = absurd (not_in (0 ∷ 1 ∷ 3 ∷ 4 ∷ 5 ∷ 6 ∷ []) 2 h refl)
      by (hi y) h = refl
      by (user y) h = refl
      by end h = refl
      by broken h = refl

  module _ (f : Frame) (e : command_of here ≡ frame f) where
    pub frame-room : at + 5 ≤ length w
    frame-room = omega (arith, (told here (frame f) e).2, length-drop at w)

    module _ {r : Result Unit Cause} (er : r ≡ frame_cause c f) where
      frame-cause : cause_of (celled c at) here (frame f) ≡ r
      unfolding celled cause_at in_order field_cause
      frame-cause = sym er

      pub frame_refused : {k : Cause} → r ≡ Err k → {g : Stop} → g ≡ found_at 2 at k → refused g ≡ Rest
      frame_refused q eg = ap refused eg ∙ sym (stopped w (celled c at) 2 at (frame f) e (omega (arith, (told here (frame f) e).2)) _ (frame-cause ∙ q))

      pub frame_step : r ≡ (Ok tt) → body_rest w c f (at + 5) 0 (at + 5) 0 (at + 5) ≡ Rest
      unfolding state_after celled body_state commands_from
      frame_step q =
          sym (stepped w (celled c at) 2 at (frame f) e (omega (arith, (told here (frame f) e).2)) _ refl 3 (at + 5) refl (omega (arith, (told here (frame f) e).1)) (frame-cause ∙ q))
