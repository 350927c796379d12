-- What an accepted plan says of its numbers, from the plan check's answer. Assumes nothing.
use Prim.Native.Nat.{ℕ, ◌≤◌}
use mathlib.Core.Path.{◌≡◌}
use mathlib.Core.List.{List}
use Rattle.std.specs.declared.result.Result.TheVariants.{Ok as accepted}
use Rattle.plan.specs.Check.{check_of}
use Rattle.plan.specs.declared.Plan.{Plan}
use Rattle.plan.proofs.Valid.{valid}
use Rattle.plan.proofs.Counts as counts

module _ (w : List ℕ) (p : Plan) (ok : check_of w ≡ accepted p) where
  pub blocks-least : 6 ≤ p.cell.blocks
  blocks-least = counts.blocks-least p.cell (valid w p ok).cell

  pub blocks-most : p.cell.blocks ≤ 100
  blocks-most = counts.blocks-most p.cell (valid w p ok).cell

  pub ports-most : p.cell.ports ≤ 4
  ports-most = counts.ports-most p.cell (valid w p ok).cell

  pub sixths-most : p.cell.sixths ≤ 12
  sixths-most = counts.sixths-most p.cell (valid w p ok).cell
