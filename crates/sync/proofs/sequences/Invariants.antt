-- `sync::sequences` meets its contract: after i steps the words hold the sequences' first i + 5 values. Assumes nothing.
use Rattle.sync.proofs.Recurrence.{Filled}
use Rattle.sync.proofs.sequences.Given as goal

abbrev pub invariant-loop : goal.invariant-loop
invariant-loop l = Filled l.counter l.s l.c l.z
