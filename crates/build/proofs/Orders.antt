-- The order whose table is at hand, or none: by the test of the code. Assumes nothing.
use Prim.Native.Nat.{ℕ}
use mathlib.Core.Path.{◌≡◌, sym, ap, ◌∙◌}
use mathlib.Core.Bool.{Bool, true, false, not, false≢true}
use native.Mathlib.Omega.{arith}
use lib.Dec.{eqb}
use borrow.Author.Tests.{eqb-true, not-false}
use Rattle.std.specs.Option.{option_eq}
use Rattle.std.specs.declared.option.Option.{Option}
use Rattle.std.specs.declared.option.Option.TheVariants.{Some, None}

pub never : {q : ℕ} → ◌≡◌ {A = Option ℕ} None (Some q) → ⊥
never n = let z : ◌≡◌ {A = ℕ} 0 1 = cc in omega arith

-- the order that a table has, by the test of the code
pub same-order : (o : Option ℕ) (q : ℕ) {b : Bool} → b ≡ not (option_eq eqb o (Some q)) → b ≡ false → o ≡ Some q
same-order None q e f = absurd (false≢true (sym f ∙ e))
same-order (Some x) q e f = ap Some (eqb-true x q (not-false (eqb x q) (sym e ∙ f)))

pub some-same : {q r : ℕ} → ◌≡◌ {A = Option ℕ} (Some q) (Some r) → q ≡ r
some-same n = cc
