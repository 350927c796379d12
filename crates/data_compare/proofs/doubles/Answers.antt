-- Two places more.
use Rattle.data_compare.proofs.OnePort.{doubles-start, doubles-on, doubles-end}
use Rattle.data_compare.proofs.doubles.Goals as goal

pub loop-i-init : goal.loop-i-init
loop-i-init c = doubles-start

pub loop-i-preserved : goal.loop-i-preserved
loop-i-preserved c = doubles-on c.loop-i.invariant c.loop-i-test.true c.pair_at.ensures c.wrong-bad.ensures

pub returns : goal.returns
returns c = doubles-end c.loop-i.invariant c.loop-i-test.false
