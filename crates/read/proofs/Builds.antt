-- THEOREM of a call of read and calls of build (demand 2): `grid` is what is lent to read, `before` and `after` the payload at entry and exit,
-- a the answer, of which read's contract promises `Reads`. `grid_after` is what a call of build leaves, as its contract says. Assumes nothing
-- beyond what demand 2 takes: an accepted plan and buffers of its lengths.
use Prim.Native.Nat.{ℕ}
use mathlib.Core.Path.{◌≡◌, sym, ◌∙◌}
use mathlib.Core.Logic.{◌↔◌}
use mathlib.Core.List.{List}
use lib.ListN.{length}
use Rattle.std.specs.declared.result.Result.TheVariants.{Ok as accepted}
use Rattle.plan.specs.Answers.{Answer, given}
use Rattle.plan.specs.Check.{check_of, refused_as}
use Rattle.plan.specs.declared.Plan.{Plan}
use Rattle.plan.specs.declared.Refusal.TheVariants.{NoPayload}
use Rattle.payload.specs.Payload.{grid_length, payload_length, AcceptedPayload}
use Rattle.build.specs.Build.{pdsch_elements, grid_after}
use Rattle.build.proofs.Apart.{left_is}
use Rattle.read.specs.Read.{Bytes, Reads}

module _
    (w : List ℕ)
    (p : Plan)
    (ok : check_of w ≡ accepted p)
    (grid before : List ℕ)
    (whole : length grid ≡ grid_length p)
    (size : length before ≡ payload_length w p)
    (a : Answer)
    (after : List ℕ)
    (reads : Reads w grid before a after)
  where
    -- the payload returned is accepted, and from it a call of build makes that very grid, whatever the grid lent to build held
    pub returned-builds :
        (n : ℕ) → a ≡ given n → AcceptedPayload w p after × ((g : List ℕ) → length g ≡ grid_length p → grid_after w after g ≡ grid)
    returned-builds n e =
        let r = (reads.under p ok).returned n e in (r.0, λ g right. left_is w p ok after g r.0 right ∙ r.1)

    -- 13 exactly when a call of build makes the grid from no accepted payload
    pub none-builds :
        (a ≡ refused_as NoPayload)
        ↔ ((payload g : List ℕ) → Bytes payload → AcceptedPayload w p payload → length g ≡ grid_length p → grid_after w payload g ≡ grid → ⊥)
    none-builds =
        let none = (reads.under p ok).none whole size in (
          λ e payload g small good right made. none.0 e payload small good (sym (left_is w p ok payload g good right) ∙ made),
          λ never. none.1 (λ payload small good made. never payload grid small good whole (left_is w p ok payload grid good whole ∙ made)),
        )

    -- what a call of build made is read back
    pub built-back :
        (payload g : List ℕ) → Bytes payload → AcceptedPayload w p payload → length g ≡ grid_length p
        → grid_after w payload g ≡ grid → (a ≡ given (pdsch_elements w p)) × (after ≡ payload)
    built-back payload g small good right made =
        (reads.under p ok).back payload small good (sym (left_is w p ok payload g good right) ∙ made) size
