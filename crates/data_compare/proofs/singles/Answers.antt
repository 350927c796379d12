-- One place more.
use Rattle.data_compare.proofs.OnePort.{singles-start, singles-on, all_seen}
use Rattle.data_compare.proofs.singles.Goals as goal

pub loop-i-init : goal.loop-i-init
loop-i-init c = singles-start

pub loop-i-preserved : goal.loop-i-preserved
loop-i-preserved c = singles-on c.loop-i.invariant c.loop-i-test.true c.three_at.ensures c.wrong.ensures

pub returns : goal.returns
returns c = all_seen c.loop-i.invariant.few c.loop-i-test.false c.loop-i.invariant.done
