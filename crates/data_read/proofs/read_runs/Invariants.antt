-- `data_read::read_runs` meets its contract. Invariant: the runs before the cursor are read. Assumes nothing.
use Rattle.walk.proofs.Cursors.{measure}
use Rattle.data_read.specs.Areas.{Going}
use Rattle.data_read.proofs.read_runs.Given as goal

abbrev pub invariant-loop-c : goal.invariant-loop-c
invariant-loop-c l = Going l.a l.q l.tables.rows l.tables.spans l.d l.grid l.initial.st l.initial.part l.c l.j l.st l.part

abbrev pub decreases-loop-c : goal.decreases-loop-c
decreases-loop-c l = measure l.symbols l.c
