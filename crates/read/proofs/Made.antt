-- Whether the payload of a grid makes it, as a test. Assumes nothing.
use Prim.Native.Nat.{ℕ}
use mathlib.Core.Path.{◌≡◌, refl, sym, ap₂, subst}
use mathlib.Core.Bool.{Bool, true, false}
use mathlib.Core.Logic.{◌↔◌}
use mathlib.Core.List.{List, [], ◌∷◌}
use lib.Dec.{eqb}
use borrow.Author.Tests.{eq-eqb, eqb-true}
use Rattle.base.proofs.Tests.{clash}
use Rattle.plan.specs.declared.Plan.{Plan}
use Rattle.plan.proofs.Listed.{and_left, and_right}
use Rattle.subframe.specs.Grid.{grid_of}
use Rattle.recovery.specs.Recovery.{payload_in}
use Rattle.read.specs.Equation.{same, is_made}

same_self : (a : List ℕ) → same a a ≡ true
unfolding same
same_self [] = refl
same_self (x ∷ xs) = rw (eq-eqb x x refl) (same_self xs)

same_lists : (a b : List ℕ) → same a b ≡ true → a ≡ b
unfolding same
same_lists [] [] e = refl
same_lists [] (y ∷ ys) e = clash refl (sym e)
same_lists (x ∷ xs) [] e = clash refl (sym e)
same_lists (x ∷ xs) (y ∷ ys) e =
    ap₂ (λ (n : ℕ) (l : List ℕ). n ∷ l) (eqb-true x y (and_left (eqb x y) (same xs ys) e)) (same_lists xs ys (and_right (eqb x y) (same xs ys) e))

-- THE LAW of the test
pub same_true : (a b : List ℕ) → (same a b ≡ true) ↔ (a ≡ b)
same_true a b = (same_lists a b, (λ e. subst (λ (l : List ℕ). same a l ≡ true) e (same_self a)))

module _ (w : List ℕ) (p : Plan) (g : List ℕ) where
  pub made-true : (is_made w p g ≡ true) ↔ (grid_of w p (payload_in w p g) ≡ g)
  unfolding is_made
  made-true = same_true (grid_of w p (payload_in w p g)) g

  pub made-false : (grid_of w p (payload_in w p g) ≡ g → ⊥) → is_made w p g ≡ false
  made-false h = pick (is_made w p g) (λ e. h (made-true.0 e))
    where
      pick : (b : Bool) → (b ≡ true → ⊥) → b ≡ false
      pick true n = absurd (n refl)
      pick false n = refl
