-- `signals_compare::compare_word` meets its contract. The loop: the first i values are compared on each port. Assumes nothing.
use Prim.Native.Nat.{◌+◌, ◌*◌}
use Rattle.signals.specs.Rows.{first_of, last_of}
use Rattle.signals.proofs.ValueByValue.{WordDone, BothDone}
use Rattle.signals_compare.proofs.Differing.{DifferingIn}
use Rattle.signals_compare.proofs.compare_word.Given as goal

abbrev pub invariant-loop-i : goal.invariant-loop-i
invariant-loop-i g l = WordDone (BothDone (first_of l.firsts) (last_of l.firsts) (DifferingIn l.grid)) l.word l.n (first_of l.firsts + 6 * l.m) l.i l.differ
