-- `pdcch_read::read_given` meets its contract. Invariant: the given ones of the first e elements are read. Assumes nothing.
use Rattle.pdcch_read.specs.Bytes.{Given}
use Rattle.pdcch_read.proofs.read_given.Given as goal

abbrev pub invariant-loop-e : goal.invariant-loop-e
invariant-loop-e l = Given l.cell l.elements l.groups l.from l.d l.grid l.initial.s l.initial.part l.e l.s l.part
