-- Laws of the answers, in the code's own cases: one element beside its value, and both of two comparisons. Assumes nothing.
use Prim.Native.Nat.{ℕ, ◌+◌, ◌≤◌}
use mathlib.Core.Path.{◌≡◌, refl, sym, ap, ap₂, ◌∙◌, subst}
use mathlib.Core.Bool.{Bool, true, false, cond, not, ◌&&◌}
use lib.Dec.{eqb}
use mir.Val.{bool_byte}
use native.Mathlib.Omega.{arith}
use Rattle.base.specs.declared.Element.{Element}
use Rattle.std.specs.Prelude.{Option, Some, None}
use Rattle.compare.specs.Comparing.{nonzero, weight_of, same_element, seen_of, both_of, Few}
use Rattle.compare.proofs.Comparing.{nonzero-le}

from-nonzero : (b : ℕ) → bool_byte (not (eqb b 0)) ≡ nonzero b
unfolding nonzero
from-nonzero b = by_case (eqb b 0)
  where
    by_case : (t : Bool) → bool_byte (not t) ≡ cond t 0 1
    by_case true = refl
    by_case false = refl

pub mark-few : (b : ℕ) {n : ℕ} → n ≡ bool_byte (not (eqb b 0)) → n ≤ 1
mark-few b e = omega (arith, e, from-nonzero b, nonzero-le b)

and_assoc : (x y z : Bool) → x && (y && z) ≡ x && y && z
and_assoc true y z = refl
and_assoc false y z = refl

module _ (a b : Element) {r : Bool} (is : r ≡ eqb a.byte b.byte && (eqb a.i b.i && eqb a.j b.j)) where
  same : r ≡ same_element a b
  same = is ∙ and_assoc (eqb a.byte b.byte) (eqb a.i b.i) (eqb a.j b.j)

  pub all_same :
      {x y z : ℕ} → r ≡ true → x ≡ bool_byte (not (eqb a.byte 0)) → y ≡ bool_byte (not (eqb a.i 0)) → z ≡ bool_byte (not (eqb a.j 0))
      → Some (x + y + z) ≡ seen_of a b
  unfolding seen_of weight_of
  all_same t ex ey ez = rw (sym same ∙ t, ex, ey, ez, from-nonzero a.byte, from-nonzero a.i, from-nonzero a.j) refl

  pub other : r ≡ false → None ≡ seen_of a b
  unfolding seen_of
  other f = rw (sym same ∙ f) refl

module _ {a b : Option ℕ} {m n : ℕ} (ea : a ≡ Some m) (eb : b ≡ Some n) where
  pub both-few : Few a → Few b → m + n ≤ 8589934592
  both-few fa fb = let x : m ≤ 4294967296 = subst Few ea fa in let y : n ≤ 4294967296 = subst Few eb fb in omega arith

  pub both-weights : Some (m + n) ≡ both_of a b
  both-weights = sym (ap₂ both_of ea eb)

pub both-first : {a r : Option ℕ} (b : Option ℕ) → r ≡ None → a ≡ None → r ≡ both_of a b
both-first b e n = e ∙ sym (ap (λ (x : Option ℕ). both_of x b) n)

pub both-second : {a b r : Option ℕ} {m : ℕ} → r ≡ None → a ≡ Some m → b ≡ None → r ≡ both_of a b
both-second e m n = e ∙ sym (ap₂ both_of m n)
