-- `data_compare::rounds` meets its contract. Invariant: the sums tell of the pairs before i. Assumes nothing.
use Rattle.data_compare.specs.Places.{Pairs}
use Rattle.data_compare.proofs.rounds.Given as goal

abbrev pub invariant-loop-i : goal.invariant-loop-i
invariant-loop-i g l = Pairs l.ports l.places g.row.GAP l.j l.start l.step l.n l.f l.grid l.s l.at l.next l.i
