-- What is shown inside the grid and outside, for an accepted plan. Assumes nothing.
use Prim.Native.Nat.{ℕ, ◌≤◌, ◌<◌}
use mathlib.Core.Path.{◌≡◌, refl, sym, ap, ◌∙◌}
use mathlib.Core.Bool.{Bool, true, false, ◌&&◌}
use mathlib.Core.List.{List}
use lib.Dec.{ltb}
use borrow.Author.Tests.{lt-ltb, le-ltb}
use Rattle.std.specs.declared.result.Result.TheVariants.{Ok as accepted, Err as refused}
use Rattle.plan.specs.Check.{check_of}
use Rattle.plan.specs.declared.Plan.{Plan}
use Rattle.plan.specs.declared.Refusal.{Refusal}
use Rattle.plan.proofs.Valid.{valid}
use Rattle.plan.proofs.Counts.{ports-least}
use Rattle.layout.specs.Owners.{owner_number, symbols, carriers, owner_of}
use Rattle.layout.specs.Query.{in_grid}
use Rattle.layout.specs.declared.Owner.{Owner}
use Rattle.layout.proofs.Asked.{way-owner, way-outside}
use Rattle.legend.specs.Shown.{shown, shown_at, shown_from, row_by, row_after}

none_left : (a b : Bool) → a ≡ false → a && b ≡ false
none_left a b e = rw e refl

none_right : (a b : Bool) → b ≡ false → a && b ≡ false
none_right true b e = e
none_right false b e = refl

module _ (w : List ℕ) (p : Plan) (ok : check_of w ≡ accepted p) (s k : ℕ) where
  inside : s < symbols p.cell → k < carriers p.cell → in_grid p.cell s k 0 ≡ true
  unfolding in_grid
  inside a b = rw (lt-ltb _ _ a, lt-ltb _ _ b, lt-ltb _ _ (ports-least p.cell (valid w p ok).cell)) refl

  late : symbols p.cell ≤ s → in_grid p.cell s k 0 ≡ false
  unfolding in_grid
  late a = none_left _ _ (none_left _ _ (le-ltb _ _ a))

  wide : carriers p.cell ≤ k → in_grid p.cell s k 0 ≡ false
  unfolding in_grid
  wide b = none_left _ _ (none_right (ltb s (symbols p.cell)) _ (le-ltb _ _ b))

  pub shown-owner : s < symbols p.cell → k < carriers p.cell → (n : ℕ) (o : Owner) → n ≡ owner_number o → o ≡ owner_of w p s k → n ≡ shown_at w s k
  shown-owner a b n o en eo = en ∙ ap shown (way-owner w s k 0 p ok true (sym (inside a b)) refl o eo)

  pub shown-late : symbols p.cell ≤ s → 513 ≡ shown_at w s k
  shown-late a = ap shown (way-outside w s k 0 p ok false (sym (late a)) refl)

  pub shown-wide : carriers p.cell ≤ k → 513 ≡ shown_at w s k
  shown-wide b = ap shown (way-outside w s k 0 p ok false (sym (wide b)) refl)

-- the whole row, by the plan check's answer
module _ (w : List ℕ) (s first : ℕ) (row : List ℕ) where
  pub row-shown : (p : Plan) → check_of w ≡ accepted p → (after : List ℕ) → after ≡ shown_from w s first row → after ≡ row_after w s first row
  unfolding row_by row_after
  row-shown p ok after e = rw ok e

  pub row-left : (r : Refusal) → check_of w ≡ refused r → row ≡ row_after w s first row
  unfolding row_by row_after
  row-left r e = rw e refl
