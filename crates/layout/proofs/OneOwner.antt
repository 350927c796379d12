-- THEOREM A, for the regulator. No setting gives one resource element to two channels: in every plan that the plan check accepts, at
-- every place of its grid, there is an owner whose rule holds there, and every owner whose rule holds there is that one. Assumes
-- nothing beyond the plan check's answer: not the range of an identity, not a width, not that users keep apart, all of which follow.
use Prim.Native.Nat.{ℕ, ◌<◌}
use mathlib.Core.Path.{◌≡◌, refl, sym}
use mathlib.Core.Logic.{◌↔◌}
use mathlib.Core.Bool.{true}
use mathlib.Core.List.{List}
use Rattle.std.specs.declared.result.Result.TheVariants.{Ok as accepted}
use Rattle.plan.specs.Check.{check_of}
use Rattle.plan.specs.declared.Plan.{Plan}
use Rattle.plan.proofs.Valid.{valid}
use Rattle.layout.specs.Owners.{symbols, carriers, owns, owner_of}
use Rattle.layout.specs.Chain.{owner_at}
use Rattle.layout.specs.declared.Owner.{Owner}
use Rattle.layout.proofs.Fixed.{Fit}
use Rattle.layout.proofs.Partition as partition

-- what the inner laws ask of a cell and a subcarrier
pub fit : (w : List ℕ) (p : Plan) → check_of w ≡ accepted p → (k : ℕ) → k < carriers p.cell → Fit p.cell k
fit w p ok k in-k =
    record { cell = (valid w p ok).cell; inside = in-k }

-- the owner that the code finds is the one whose rule holds
pub owner-is :
    (w : List ℕ) (p : Plan) → check_of w ≡ accepted p → (s k : ℕ) → s < symbols p.cell → k < carriers p.cell
    → (o : Owner) → (owns w p o s k ≡ true) ↔ (owner_at w p s k ≡ o)
owner-is w p ok s k in-s in-k o =
    let fits = fit w p ok k in-k in
    let apart = (valid w p ok).apart in
    (partition.the-owner w p s k fits apart o, λ e. rw (← e) (partition.owned w p s k fits apart))

-- THEOREM A
pub one-owner :
    (w : List ℕ) (p : Plan) → check_of w ≡ accepted p → (s k : ℕ) → s < symbols p.cell → k < carriers p.cell
    → (o : Owner) × (owns w p o s k ≡ true) × ((other : Owner) → owns w p other s k ≡ true → other ≡ o)
one-owner w p ok s k in-s in-k =
    let is = owner-is w p ok s k in-s in-k in
    (owner_at w p s k, (is (owner_at w p s k)).1 refl, λ other e. sym ((is other).0 e))

-- and the owner that the promises name, the first of the plan's owners whose rule holds, is that one too
pub owner_of_lem :
    (w : List ℕ) (p : Plan) → check_of w ≡ accepted p → (s k : ℕ) → s < symbols p.cell → k < carriers p.cell
    → owner_of w p s k ≡ owner_at w p s k
owner_of_lem w p ok s k in-s in-k = partition.owner_of_lem w p s k (fit w p ok k in-k) (valid w p ok).apart
