-- `signals_compare::compare_values` meets its contract. The loop: the first m values are compared on each port, and the pair has given
-- their bits. Assumes nothing.
use Prim.Native.Nat.{◌-◌}
use Rattle.signals.specs.Rows.{first_of, last_of}
use Rattle.signals.proofs.ValueByValue.{ValuesDone, BothDone}
use Rattle.signals_compare.proofs.Differing.{DifferingIn}
use Rattle.signals_compare.proofs.compare_values.Given as goal

abbrev pub invariant-loop-m : goal.invariant-loop-m
invariant-loop-m g l = ValuesDone (BothDone (first_of l.firsts) (last_of l.firsts) (DifferingIn l.grid)) l.initial.pair l.n (first_of l.firsts) l.pair l.m l.differ

abbrev pub decreases-loop-m : goal.decreases-loop-m
decreases-loop-m g l = l.n - l.m
