-- `control_compare::compare_pcfich` meets its contract: after n pairs of places those of the indices below 2n are compared. Assumes nothing.
use Rattle.compare.proofs.Accumulating.{ComparedIn}
use Rattle.control.proofs.PairByPair.{PcfichDone}
use Rattle.control_compare.proofs.compare_pcfich.Given as goal

abbrev pub invariant-loop-n : goal.invariant-loop-n
invariant-loop-n l = PcfichDone (ComparedIn l.grid) l.cell l.cfi l.initial.s l.s l.n l.seen
