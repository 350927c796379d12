-- `signals_write::put_each` meets its contract. The loop: the element stands on the first ports. Assumes nothing.
use native.Mathlib.Omega.{arith}
use Rattle.grid.proofs.Accumulating.{writing}
use Rattle.signals.proofs.ValueByValue.{each-first, each-step, each-last}
use Rattle.signals_write.proofs.put_each.Goals as goal

pub loop-first-init : goal.loop-first-init
loop-first-init g c = each-first c.args.firsts (writing c.args.grid.now) c.args.i c.args.el

pub loop-first-preserved : goal.loop-first-preserved
loop-first-preserved g c = each-step c.args.firsts (writing c.args.grid.now) c.requires (omega arith) c.loop-first.invariant c.put.ensures

pub returns : goal.returns
returns g c = each-last c.args.firsts (writing c.args.grid.now) c.requires (omega arith) (omega arith) c.loop-first.invariant
