-- `sync::sequences` meets its contract: after i steps the words hold the sequences' first i + 5 values. Assumes nothing.
use Rattle.sync.proofs.Recurrence.{filled_none, filled_more}
use Rattle.sync.proofs.sequences.Goals as goal

pub loop-init : goal.loop-init
loop-init c = filled_none

pub loop-preserved : goal.loop-preserved
loop-preserved c = let l = c.loop in
    filled_more l.counter l.s l.c l.z c.pushed-s.result c.pushed-c.result c.pushed-z.result
    c.loop-test.true
    l.invariant
    c.pushed-s.ensures
    c.pushed-c.ensures
    c.pushed-z.ensures
