-- `control_write::fill_pcfich` meets its contract: after n pairs of places those of the indices below 2n are written. Assumes nothing.
use Rattle.grid.proofs.Accumulating.{WrittenIn}
use Rattle.control.proofs.PairByPair.{PcfichDone}
use Rattle.control_write.proofs.fill_pcfich.Given as goal

abbrev pub invariant-loop-n : goal.invariant-loop-n
invariant-loop-n l = PcfichDone (WrittenIn l.initial.grid) l.cell l.cfi l.initial.s l.s l.n l.grid
