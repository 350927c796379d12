-- The promise and the equation say the same; so no two answers meet the promise. Assumes nothing.
use Prim.Native.Nat.{ℕ}
use mathlib.Core.Path.{◌≡◌, refl, sym, ◌∙◌, subst}
use mathlib.Core.List.{List}
use lib.Dec.{eqb}
use lib.ListN.{length}
use borrow.Author.Tests.{eqb-true, eqb-false}
use Rattle.std.specs.declared.result.Result.{Result}
use Rattle.std.specs.declared.result.Result.TheVariants.{Ok as accepted, Err as refused}
use Rattle.base.proofs.Tests.{by-test, clash}
use Rattle.plan.specs.Answers.{Answer}
use Rattle.plan.specs.Check.{check_of}
use Rattle.plan.specs.declared.Plan.{Plan}
use Rattle.plan.specs.declared.Refusal.{Refusal}
use Rattle.payload.specs.Payload.{grid_length, payload_length}
use Rattle.read.specs.Read.{Reads}
use Rattle.read.specs.Equation.{is_made, read_of, payload_after}
use Rattle.read.proofs.Made.{made-true}
use Rattle.read.proofs.Settled.{Settles, plan-refused, grid-length, payload-length, none, made}

-- one answer, with one payload after it
abbrev One : List ℕ → List ℕ → List ℕ → Type 0
One w grid before = (a : Answer) × (after : List ℕ) × Settles w grid before a after

module _ (w grid before : List ℕ) where
  under : (p : Plan) → check_of w ≡ accepted p → One w grid before
  under p ok =
      by-test (eqb (length grid) (grid_length p))
      (λ g. let right = eqb-true (length grid) (grid_length p) g in
      by-test (eqb (length before) (payload_length w p))
      (λ s. let size = eqb-true (length before) (payload_length w p) s in
      by-test (is_made w p grid)
      (λ m. (_, _, made w grid before p ok right size ((made-true w p grid).0 m)))
      (λ m. (_, _, none w grid before p ok right size (λ e. clash ((made-true w p grid).1 e) m))))
      (λ s. (_, _, payload-length w grid before p ok right (eqb-false (length before) (payload_length w p) s))))
      (λ g. (_, _, grid-length w grid before p ok (eqb-false (length grid) (grid_length p) g)))

  settled : One w grid before
  settled = pick (check_of w) refl
    where
      pick : (x : Result Plan Refusal) → check_of w ≡ x → One w grid before
      pick (accepted p) e = under p e
      pick (refused r) e = (_, _, plan-refused w grid before r e)

  -- THE EQUATION meets the promise
  pub equation-meets : Reads w grid before (read_of w grid before) (payload_after w grid before)
  equation-meets =
      let s = settled.2 in
      subst (λ (a : Answer). Reads w grid before a (payload_after w grid before)) (sym s.answer)
      (subst (λ (z : List ℕ). Reads w grid before settled.0 z) (sym s.payload) s.meets)

  module _ (a : Answer) (after : List ℕ) where
    -- and no other answer does
    pub by-equation : Reads w grid before a after → (a ≡ read_of w grid before) × (after ≡ payload_after w grid before)
    by-equation h =
        let s = settled.2 in
        let q = s.only a after h in (q.0 ∙ sym s.answer, q.1 ∙ sym s.payload)

    -- THE LAW
    pub once : (b : Answer) (left : List ℕ) → Reads w grid before a after → Reads w grid before b left → (a ≡ b) × (after ≡ left)
    once b left f g =
        let s = settled.2 in
        let x = s.only a after f in
        let y = s.only b left g in (x.0 ∙ sym y.0, x.1 ∙ sym y.1)
