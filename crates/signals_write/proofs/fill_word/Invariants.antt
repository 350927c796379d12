-- `signals_write::fill_word` meets its contract. The loop: the first i values stand on each port. Assumes nothing.
use Prim.Native.Nat.{◌+◌, ◌*◌}
use Rattle.grid.proofs.Accumulating.{WrittenIn}
use Rattle.signals.specs.Rows.{first_of, last_of}
use Rattle.signals.proofs.ValueByValue.{WordDone, BothDone}
use Rattle.signals_write.proofs.fill_word.Given as goal

abbrev pub invariant-loop-i : goal.invariant-loop-i
invariant-loop-i g l = WordDone (BothDone (first_of l.firsts) (last_of l.firsts) (WrittenIn l.initial.grid)) l.word l.n (first_of l.firsts + 6 * l.m) l.i l.grid
