-- `control_compare::compare_sums` meets its contract: after n quads those of the indices below 4n are compared. Assumes nothing.
use Prim.Native.Nat.{◌*◌}
use Rattle.compare.proofs.Accumulating.{ComparedIn}
use Rattle.control.proofs.PairByPair.{UnitDone}
use Rattle.control_compare.proofs.compare_sums.Given as goal

abbrev pub invariant-loop-n : goal.invariant-loop-n
invariant-loop-n l = UnitDone (ComparedIn l.grid) l.cell l.m l.sums (2 * l.n) l.seen
