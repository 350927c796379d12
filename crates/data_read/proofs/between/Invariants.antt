-- `data_read::between` meets its contract. Invariant: k places are read. Assumes nothing.
use Prim.Native.Nat.{◌-◌}
use Rattle.data_read.proofs.Places.{Stretches}
use Rattle.data_read.proofs.between.Given as goal

abbrev pub invariant-loop-k : goal.invariant-loop-k
invariant-loop-k l = Stretches l.q l.j l.first l.lead l.each l.total l.d l.grid l.initial.st l.initial.part l.at l.left l.k l.st l.part

abbrev pub decreases-loop-k : goal.decreases-loop-k
decreases-loop-k l = l.total - l.k
