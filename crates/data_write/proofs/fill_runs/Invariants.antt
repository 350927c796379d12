-- `data_write::fill_runs` meets its contract. Invariant: the runs before the cursor are filled. Assumes nothing.
use Rattle.data_write.specs.Areas.{Going}
use Rattle.walk.proofs.Cursors.{measure}
use Rattle.data_write.proofs.fill_runs.Given as goal

abbrev pub invariant-loop-c : goal.invariant-loop-c
invariant-loop-c l = Going l.a l.q l.tables.rows l.tables.spans l.t l.bits l.initial.st l.initial.grid l.c l.j l.st l.grid

abbrev pub decreases-loop-c : goal.decreases-loop-c
decreases-loop-c l = measure l.symbols l.c
