-- A slot's two sums. The loop's invariant: they are the sums over the slot's first l symbols. The measure is what is left of the symbols. Assumes nothing.
use Prim.Native.Nat.{◌-◌}
use Rattle.counts.proofs.Shapes.{Summed}
use Rattle.counts.proofs.slot_shape.Given as goal

abbrev pub invariant-loop-l : goal.invariant-loop-l
invariant-loop-l l = Summed l.cell l.frame l.start l.whole l.centre l.l
