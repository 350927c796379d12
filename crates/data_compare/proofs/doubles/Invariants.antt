-- Twice i places are compared.
use Rattle.data_compare.specs.Places.{Doubles}
use Rattle.data_compare.proofs.doubles.Given as goal

abbrev pub invariant-loop-i : goal.invariant-loop-i
invariant-loop-i l = Doubles l.start l.n l.f l.grid l.bad l.i
