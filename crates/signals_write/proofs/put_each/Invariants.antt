-- `signals_write::put_each` meets its contract. The loop: the element stands on the first ports. Assumes nothing.
use Rattle.grid.proofs.Accumulating.{WrittenIn}
use Rattle.signals.proofs.ValueByValue.{EachDone}
use Rattle.signals_write.proofs.put_each.Given as goal

abbrev pub invariant-loop-first : goal.invariant-loop-first
invariant-loop-first g l = EachDone (WrittenIn l.initial.grid) l.fn.firsts l.i l.el l.first-index l.grid
