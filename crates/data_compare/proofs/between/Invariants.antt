-- `data_compare::between` meets its contract. Invariant: the first k places are compared. Assumes nothing.
use Prim.Native.Nat.{◌-◌}
use Rattle.data_compare.specs.Places.{Stretches}
use Rattle.data_compare.proofs.between.Given as goal

abbrev pub invariant-loop-k : goal.invariant-loop-k
invariant-loop-k l = Stretches l.first l.lead l.each l.total l.f l.grid l.bad l.at l.left l.k

abbrev pub decreases-loop-k : goal.decreases-loop-k
decreases-loop-k l = l.total - l.k
