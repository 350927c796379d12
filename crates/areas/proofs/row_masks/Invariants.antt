-- The bytes of all symbols. The loop's invariant: those of the symbols below s are set.
use Rattle.areas.specs.Tables.{RowMasks}
use Rattle.areas.proofs.row_masks.Given as goal

abbrev pub invariant-loop-s : goal.invariant-loop-s
invariant-loop-s l = RowMasks l.cell l.frame l.signals l.leaves l.s l.masks
