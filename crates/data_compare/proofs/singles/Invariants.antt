-- The places before i are compared.
use Rattle.data_compare.specs.Places.{Singles}
use Rattle.data_compare.proofs.singles.Given as goal

abbrev pub invariant-loop-i : goal.invariant-loop-i
invariant-loop-i l = Singles l.start l.n l.f l.grid l.bad l.i
