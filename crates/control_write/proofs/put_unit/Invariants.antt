-- `control_write::put_unit` meets its contract: after n quads those of the indices below 4n are written. Assumes nothing.
use Prim.Native.Nat.{◌*◌}
use Rattle.grid.proofs.Accumulating.{WrittenIn}
use Rattle.control.proofs.PairByPair.{UnitDone}
use Rattle.control_write.proofs.put_unit.Given as goal

abbrev pub invariant-loop-n : goal.invariant-loop-n
invariant-loop-n l = UnitDone (WrittenIn l.initial.grid) l.cell l.m l.sums (2 * l.n) l.grid
