-- `signals_write::fill_row` meets its contract. The loop: the first i elements stand, with any values that they can have. Assumes nothing.
use native.Mathlib.Omega.{arith}
use Rattle.grid.proofs.Accumulating.{writing}
use Rattle.signals.proofs.ValueByValue.{row_first, row_step, row_last}
use Rattle.signals_write.proofs.fill_row.Goals as goal

pub loop-i-init : goal.loop-i-init
loop-i-init g c = λ W p. row_first (writing c.args.grid.now) W c.args.first

pub loop-i-preserved : goal.loop-i-preserved
loop-i-preserved g c = λ W p.
    row_step (writing c.args.grid.now) (c.loop-i.invariant W p) c.loop-i-test.true (p c.loop-i.i c.element.result c.loop-i-test.true c.element.ensures) c.put.ensures

pub returns : goal.returns
returns g c = λ W p. row_last (writing c.args.grid.now) (c.loop-i.invariant W p) (omega arith)
