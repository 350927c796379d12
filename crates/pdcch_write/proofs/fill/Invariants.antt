-- `pdcch_write::fill` meets its contract: after e control elements those below e are written where they are given. Assumes nothing.
use Rattle.pdcch_write.proofs.Elements.{ElementsDone}
use Rattle.pdcch_write.proofs.fill.Given as goal

abbrev pub invariant-loop-e : goal.invariant-loop-e
invariant-loop-e l = ElementsDone l.cell l.elements l.groups l.from l.bits l.initial.s l.s l.e l.initial.grid l.grid
