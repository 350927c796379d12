-- `data_compare::compare_runs` meets its contract. Invariant: the runs before the cursor are compared. Assumes nothing.
use Rattle.walk.proofs.Cursors.{measure}
use Rattle.data_compare.specs.Places.{Going}
use Rattle.data_compare.proofs.compare_runs.Given as goal

abbrev pub invariant-loop-c : goal.invariant-loop-c
invariant-loop-c l = Going l.a l.tables.rows l.tables.spans l.f l.grid l.c l.j l.bad

abbrev pub decreases-loop-c : goal.decreases-loop-c
decreases-loop-c l = measure l.symbols l.c
