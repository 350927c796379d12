-- `signals_compare::compare_word` meets its contract. The loop: the first i values are compared on each port. Assumes nothing.
use Prim.Native.Nat.{◌+◌, ◌*◌}
use mathlib.Core.Path.{◌≡◌, refl}
use native.Mathlib.Omega.{arith}
use Rattle.signals.specs.Rows.{first_of}
use Rattle.signals.proofs.ValueByValue.{on_each_lem, word_first, word-step}
use Rattle.signals_compare.proofs.Differing.{differing, also-differing}
use Rattle.signals_compare.proofs.compare_word.Goals as goal

pub loop-i-init : goal.loop-i-init
loop-i-init g c = word_first (on_each_lem c.args.firsts (differing c.args.grid.now)) c.args.word c.args.n (first_of c.args.firsts + 6 * c.args.m)

pub loop-i-preserved : goal.loop-i-preserved
loop-i-preserved g c =
    let first = first_of c.args.firsts in
    let e : first + 6 * (c.args.m + c.loop-i.i) ≡ first + 6 * c.args.m + 6 * c.loop-i.i = omega arith in
    word-step (on_each_lem c.args.firsts (differing c.args.grid.now)) c.loop-i.invariant c.loop-i-test.true refl c.number_of.ensures.0
    (also-differing (rw e at c.differ_each-differ.ensures))
