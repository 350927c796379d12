-- The bits of a level, the sign first. The invariant: the last k bits are still to come.
use Rattle.constellation.proofs.Axes.{AxisPart}
use Rattle.constellation.proofs.axis_bits.Given as goal

abbrev pub invariant-loop-k : goal.invariant-loop-k
invariant-loop-k l = AxisPart l.n l.b l.m l.z l.k
