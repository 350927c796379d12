-- The quads before the index of x are compared.
use Rattle.pdcch_compare.specs.Quads.{Quads}
use Rattle.pdcch_compare.proofs.compare_quads.Given as goal

abbrev pub invariant-loop-x : goal.invariant-loop-x
invariant-loop-x l = Quads l.cell l.groups l.e l.f l.grid l.bad l.x-index
