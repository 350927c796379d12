-- `signals_write::fill_word` meets its contract. The loop: the first i values stand on each port. Assumes nothing.
use Prim.Native.Nat.{◌+◌, ◌*◌}
use mathlib.Core.Path.{◌≡◌}
use native.Mathlib.Omega.{arith}
use Rattle.grid.proofs.Accumulating.{writing}
use Rattle.signals.specs.Rows.{first_of}
use Rattle.signals.proofs.ValueByValue.{on_each_lem, word_first, word-step}
use Rattle.signals_write.proofs.fill_word.Goals as goal

pub loop-i-init : goal.loop-i-init
loop-i-init g c = word_first (on_each_lem c.args.firsts (writing c.args.grid.now)) c.args.word c.args.n (first_of c.args.firsts + 6 * c.args.m)

pub loop-i-preserved : goal.loop-i-preserved
loop-i-preserved g c =
    let first = first_of c.args.firsts in
    let e : first + 6 * (c.args.m + c.loop-i.i) ≡ first + 6 * c.args.m + 6 * c.loop-i.i = omega arith in
    word-step (on_each_lem c.args.firsts (writing c.args.grid.now)) c.loop-i.invariant c.loop-i-test.true c.value-d.ensures c.element_of.ensures
    (rw e at c.put_each.ensures)
