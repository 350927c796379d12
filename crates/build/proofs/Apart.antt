-- THEOREM C of two calls of build: whatever the two grids held before, what the calls leave in them stands as demand 3 says. Assumes
-- nothing beyond what demand 3 takes: an accepted plan, two payloads accepted under it, two grids of its length.
use Prim.Native.Nat.{ℕ}
use mathlib.Core.Path.{◌≡◌}
use mathlib.Core.List.{List}
use lib.ListN.{length}
use Rattle.std.specs.declared.result.Result.TheVariants.{Ok as accepted}
use Rattle.plan.specs.Check.{check_of}
use Rattle.plan.specs.declared.Plan.{Plan}
use Rattle.plan.specs.declared.Refusal.{Refusal}
use Rattle.payload.specs.Payload.{grid_length, AcceptedPayload}
use Rattle.payload.proofs.Refusals.{buffers-right}
use Rattle.subframe.specs.Grid.{grid_of}
use Rattle.subframe.specs.TwoBuilds.{TwoBuilds}
use Rattle.subframe.proofs.TwoBuilds.{two-builds}
use Rattle.build.specs.Build.{grid_after}

module _ (w : List ℕ) (p : Plan) (ok : check_of w ≡ accepted p) where
  -- an accepted call leaves the grid of its payload
  pub left_is : (A g : List ℕ) → AcceptedPayload w p A → length g ≡ grid_length p → grid_after w A g ≡ grid_of w p A
  unfolding grid_after
  left_is A g a right = rw ok (buffers-right w p A (λ (r : Refusal). g) g right (grid_of w p A) a)

  pub builds-apart :
      (A B g h : List ℕ) → AcceptedPayload w p A → AcceptedPayload w p B → length g ≡ grid_length p → length h ≡ grid_length p
      → TwoBuilds w p A B (grid_after w A g) (grid_after w B h)
  builds-apart A B g h a b rg rh = rw (left_is A g a rg, left_is B h b rh) (two-builds w p ok A B)
