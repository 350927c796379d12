-- Two builds of one plan hold the same bytes at every element of reference signals, synchronisation and format indicator, and at every
-- held or idle one, whatever the payloads. Assumes nothing beyond the plan check's answer.
use Prim.Native.Nat.{ℕ}
use mathlib.Core.Path.{◌≡◌, refl}
use mathlib.Core.List.{List}
use Rattle.std.specs.declared.result.Result.TheVariants.{Ok as accepted}
use Rattle.plan.specs.Check.{check_of}
use Rattle.plan.specs.declared.Plan.{Plan}
use Rattle.layout.specs.declared.Mark.TheVariants.{Primary, Secondary}
use Rattle.layout.specs.declared.Owner.TheVariants.{Crs, Sync, Pcfich, Held, Idle}
use Rattle.subframe.specs.Elements.{element_for}
use Rattle.subframe.specs.Grid.{grid_of}
use Rattle.subframe.specs.TwoBuilds.{SameBytes}
use Rattle.subframe.proofs.Owned.{same_bytes}

module _ (w : List ℕ) (p : Plan) (ok : check_of w ≡ accepted p) (A B : List ℕ) where
  pub crs-builds : (q : ℕ) → SameBytes w p (Crs q) (grid_of w p A) (grid_of w p B)
  unfolding element_for
  crs-builds q = (same_bytes w p ok (Crs q) A B).1 (λ port s k in-port place own. refl)

  pub pss-builds : SameBytes w p (Sync Primary) (grid_of w p A) (grid_of w p B)
  unfolding element_for
  pss-builds = (same_bytes w p ok (Sync Primary) A B).1 (λ port s k in-port place own. refl)

  pub sss-builds : SameBytes w p (Sync Secondary) (grid_of w p A) (grid_of w p B)
  unfolding element_for
  sss-builds = (same_bytes w p ok (Sync Secondary) A B).1 (λ port s k in-port place own. refl)

  pub pcfich-builds : SameBytes w p Pcfich (grid_of w p A) (grid_of w p B)
  unfolding element_for
  pcfich-builds = (same_bytes w p ok Pcfich A B).1 (λ port s k in-port place own. refl)

  pub held-builds : SameBytes w p Held (grid_of w p A) (grid_of w p B)
  unfolding element_for
  held-builds = (same_bytes w p ok Held A B).1 (λ port s k in-port place own. refl)

  pub idle-builds : SameBytes w p Idle (grid_of w p A) (grid_of w p B)
  unfolding element_for
  idle-builds = (same_bytes w p ok Idle A B).1 (λ port s k in-port place own. refl)
