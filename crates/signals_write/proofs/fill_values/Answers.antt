-- `signals_write::fill_values` meets its contract. The loop: the first m values stand on each port, and the pair has given their bits. Assumes nothing.
use native.Mathlib.Omega.{arith}
use Rattle.grid.proofs.Accumulating.{writing}
use Rattle.signals.specs.Rows.{first_of}
use Rattle.signals.proofs.ValueByValue.{on_each_lem, each-few, each-less, values-first, values-step, values-last}
use Rattle.signals_write.proofs.fill_values.Goals as goal

pub loop-m-init : goal.loop-m-init
loop-m-init g c = values-first (on_each_lem c.args.firsts (writing c.args.grid.now)) c.args.r c.args.n (first_of c.args.firsts)

pub fill_word-requires : goal.fill_word-requires
fill_word-requires g c = (
  omega (arith, each-few c.requires),
  (c.at_once-count.ensures.1, each-less c.requires (omega (arith, c.at_once-count.ensures)) (omega arith)),
)

pub loop-m-preserved : goal.loop-m-preserved
loop-m-preserved g c =
    values-step (on_each_lem c.args.firsts (writing c.args.grid.now)) c.at_once-count.result c.word.result c.loop-m.invariant
    (omega (arith, c.at_once-count.ensures)) c.word.ensures c.fill_word.ensures c.advance-pair.ensures

pub returns : goal.returns
returns g c = values-last (on_each_lem c.args.firsts (writing c.args.grid.now)) c.loop-m.invariant (omega arith)
