-- `pdcch_write::put_element` meets its contract: after i quads of the element those are written. Assumes nothing.
use Rattle.pdcch_write.proofs.Elements.{QuadsDone}
use Rattle.pdcch_write.proofs.put_element.Given as goal

abbrev pub invariant-loop-i : goal.invariant-loop-i
invariant-loop-i l = QuadsDone l.cell l.groups l.e l.bits l.initial.s l.s l.i l.initial.grid l.grid
