-- `data_write::between` meets its contract. Invariant: k places are filled. Assumes nothing.
use Prim.Native.Nat.{◌-◌}
use Rattle.data_write.specs.OnePort.{Stretches}
use Rattle.data_write.proofs.between.Given as goal

abbrev pub invariant-loop-k : goal.invariant-loop-k
invariant-loop-k l = Stretches l.j l.first l.lead l.each l.total l.q l.t l.bits l.initial.st l.initial.grid l.at l.left l.k l.st l.grid

abbrev pub decreases-loop-k : goal.decreases-loop-k
decreases-loop-k l = l.total - l.k
