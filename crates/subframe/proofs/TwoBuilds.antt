-- THEOREM C, for the regulator's second question: one owner's data never changes what is sent for another. The grids of any two payloads of
-- an accepted plan stand to each other as demand 3 says; that the payloads are accepted is not even needed.
use Prim.Native.Nat.{ℕ}
use mathlib.Core.Path.{◌≡◌, refl}
use mathlib.Core.List.{List}
use Rattle.std.specs.declared.result.Result.TheVariants.{Ok as accepted}
use Rattle.plan.specs.Check.{check_of}
use Rattle.plan.specs.declared.Plan.{Plan}
use Rattle.layout.proofs.OneOwner.{one-owner}
use Rattle.subframe.specs.Grid.{grid_of}
use Rattle.subframe.specs.TwoBuilds.{TwoBuilds}
use Rattle.subframe.proofs.FixedBuilds.{crs-builds, pss-builds, sss-builds, pcfich-builds, held-builds, idle-builds}
use Rattle.subframe.proofs.DataBuilds.{pbch-builds, user-builds}
use Rattle.subframe.proofs.UnitBuilds.{unit-builds}

pub two-builds :
    (w : List ℕ) (p : Plan) → check_of w ≡ accepted p → (A B : List ℕ)
    → TwoBuilds w p A B (grid_of w p A) (grid_of w p B)
two-builds w p ok A B =
    record {
      first = refl;
      second = refl;
      owner = λ s k place. one-owner w p ok s k place.0 place.1;
      crs = crs-builds w p ok A B;
      pss = pss-builds w p ok A B;
      sss = sss-builds w p ok A B;
      pcfich = pcfich-builds w p ok A B;
      held = held-builds w p ok A B;
      idle = idle-builds w p ok A B;
      pbch = pbch-builds w p ok A B;
      unit = unit-builds w p ok A B;
      user = user-builds w p ok A B;
    }
