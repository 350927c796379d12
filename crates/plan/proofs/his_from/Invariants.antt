-- `plan::his_from` meets its contract: the loop over the HIs. Its invariant is `HisGoing`, its measure what is left of the plan. Assumes nothing.
use Prim.Native.Nat.{◌-◌}
use lib.ListN.{length}
use Rattle.plan.proofs.Phases.{HisGoing}
use Rattle.plan.proofs.his_from.Given as goal

abbrev pub invariant-loop-cell : goal.invariant-loop-cell
invariant-loop-cell l = HisGoing l.plan l.cell l.start l.count l.at l.pairs

abbrev pub decreases-loop-cell : goal.decreases-loop-cell
decreases-loop-cell l = length l.plan - l.at
