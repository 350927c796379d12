-- `signals_write::fill_values` meets its contract. The loop: the first m values stand on each port, and the pair has given their bits. Assumes nothing.
use Prim.Native.Nat.{◌-◌}
use Rattle.grid.proofs.Accumulating.{WrittenIn}
use Rattle.signals.specs.Rows.{first_of, last_of}
use Rattle.signals.proofs.ValueByValue.{ValuesDone, BothDone}
use Rattle.signals_write.proofs.fill_values.Given as goal

abbrev pub invariant-loop-m : goal.invariant-loop-m
invariant-loop-m g l = ValuesDone (BothDone (first_of l.firsts) (last_of l.firsts) (WrittenIn l.initial.grid)) l.initial.pair l.n (first_of l.firsts) l.pair l.m l.grid

abbrev pub decreases-loop-m : goal.decreases-loop-m
decreases-loop-m g l = l.n - l.m
