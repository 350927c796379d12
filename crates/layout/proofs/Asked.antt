-- What the owner query's answer says: by rules and numbers, and that it does not depend on the port; then the code's ways to it.
-- Assumes nothing.
use Prim.Native.Nat.{ℕ, ◌<◌}
use mathlib.Core.Path.{◌≡◌, refl, sym, ap, ◌∙◌}
use mathlib.Core.Bool.{Bool, true, false, ◌&&◌}
use mathlib.Core.List.{List, [], ◌∷◌}
use lib.Dec.{ltb}
use borrow.Author.Tests.{lt-ltb, ltb-true}
use Rattle.std.specs.declared.result.Result.{Result}
use Rattle.std.specs.declared.result.Result.TheVariants.{Ok as accepted, Ok, Err as refused, Err}
use Rattle.base.proofs.Tests.{both}
use Rattle.plan.specs.Check.{check_of, refusal_number}
use Rattle.plan.specs.declared.Cell.{Cell}
use Rattle.plan.specs.declared.Plan.{Plan}
use Rattle.plan.specs.declared.Refusal.{Refusal}
use Rattle.plan.specs.declared.Refusal.TheVariants.{Outside}
use Rattle.plan.proofs.Listed.{and_left, and_right}
use Rattle.layout.specs.Owners.{owner_number, symbols, carriers, GridPlace, owns, owner_of}
use Rattle.layout.specs.Query.{in_grid, owner_query_of, owner_answer}
use Rattle.layout.specs.declared.Owner.{Owner}
use Rattle.layout.proofs.OneOwner.{owner-is, owner_of_lem}

grid-parts : (c : Cell) (s k port : ℕ) → in_grid c s k port ≡ true → GridPlace c s k
unfolding in_grid
grid-parts c s k port e =
    let a = ltb s (symbols c) in
    let b = ltb k (carriers c) in
    let ab : a && b ≡ true = and_left (a && b) (ltb port c.ports) e in
    (ltb-true _ _ (and_left a b ab), ltb-true _ _ (and_right a b ab))

module _ (w : List ℕ) (s k port : ℕ) where
  -- the plan's refusal comes first, with its number
  pub query-refused : (r : Refusal) → check_of w ≡ refused r → owner_query_of w s k port ≡ Err r
  unfolding owner_query_of
  query-refused r e = rw e refl

  pub refused-number : (r : Refusal) → check_of w ≡ refused r → owner_answer (owner_query_of w s k port) ≡ record { refusal = true; value = refusal_number r }
  refused-number r e = ap owner_answer (query-refused r e)

  module _ (p : Plan) (ok : check_of w ≡ accepted p) where
    -- then 8
    pub query-outside : in_grid p.cell s k port ≡ false → owner_query_of w s k port ≡ Err Outside
    unfolding owner_query_of
    query-outside e = rw (ok, e) refl

    pub outside-number : in_grid p.cell s k port ≡ false → owner_answer (owner_query_of w s k port) ≡ record { refusal = true; value = 8 }
    outside-number e = ap owner_answer (query-outside e)

    query-inside : in_grid p.cell s k port ≡ true → owner_query_of w s k port ≡ Ok (owner_of w p s k)
    unfolding owner_query_of
    query-inside e = rw (ok, e) refl

    module _ (in-s : s < symbols p.cell) (in-k : k < carriers p.cell) (in-port : port < p.cell.ports) where
      inside : in_grid p.cell s k port ≡ true
      unfolding in_grid
      inside = both (both (lt-ltb _ _ in-s) (lt-ltb _ _ in-k)) (lt-ltb _ _ in-port)

      -- else the owner whose rule holds
      pub query-owner : (o : Owner) → owns w p o s k ≡ true → owner_query_of w s k port ≡ Ok o
      query-owner o e = query-inside inside ∙ ap Ok (owner_of_lem w p ok s k in-s in-k ∙ (owner-is w p ok s k in-s in-k o).0 e)

      pub owner-number : (o : Owner) → owns w p o s k ≡ true → owner_answer (owner_query_of w s k port) ≡ record { refusal = false; value = owner_number o }
      owner-number o e = ap owner_answer (query-owner o e)

-- "a place has the same owner on every port"
pub same-on-every-port :
    (w : List ℕ) (p : Plan) → check_of w ≡ accepted p → (s k a b : ℕ) → a < p.cell.ports → b < p.cell.ports
    → owner_query_of w s k a ≡ owner_query_of w s k b
unfolding owner_query_of in_grid
same-on-every-port w p ok s k a b la lb = rw (ok, lt-ltb _ _ la, lt-ltb _ _ lb) refl

-- ---- the code's ways to the answer
module _ (w : List ℕ) (s k port : ℕ) where
  pub way-refused : {a : Result Plan Refusal} {r : Refusal} → a ≡ check_of w → a ≡ refused r → Err r ≡ owner_query_of w s k port
  way-refused {a} {r} e h = sym (query-refused w s k port r (sym e ∙ h))

  module _ (p : Plan) (ok : check_of w ≡ accepted p) (b : Bool) (eb : b ≡ in_grid p.cell s k port) where
    pub way-place : b ≡ true → GridPlace p.cell s k
    way-place t = grid-parts p.cell s k port (sym eb ∙ t)

    pub way-owner : b ≡ true → (o : Owner) → o ≡ owner_of w p s k → Ok o ≡ owner_query_of w s k port
    way-owner t o eo = ap Ok eo ∙ sym (query-inside w s k port p ok (sym eb ∙ t))

    pub way-outside : b ≡ false → Err Outside ≡ owner_query_of w s k port
    way-outside t = sym (query-outside w s k port p ok (sym eb ∙ t))
