-- `plan::region_groups` meets its contract: the groups of the symbols so far, one symbol more with each turn. Assumes nothing.
use Prim.Native.Nat.{◌≤◌}
use mathlib.Core.Path.{◌≡◌}
use Rattle.plan.specs.Fields.{groups_below}
use Rattle.plan.proofs.region_groups.Given as goal

abbrev pub invariant-loop-s : goal.invariant-loop-s
invariant-loop-s l = (l.all ≡ groups_below l.cell l.s) × (l.s ≤ l.symbols)
