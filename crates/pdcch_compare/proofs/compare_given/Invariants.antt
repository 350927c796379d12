-- `pdcch_compare::compare_given` meets its contract. Invariant: the given ones of the first e elements are compared. Assumes nothing.
use Rattle.pdcch_compare.specs.Quads.{Given}
use Rattle.pdcch_compare.proofs.compare_given.Given as goal

abbrev pub invariant-loop-e : goal.invariant-loop-e
invariant-loop-e l = Given l.cell l.groups l.from l.f l.grid l.elements l.given l.bad l.e
