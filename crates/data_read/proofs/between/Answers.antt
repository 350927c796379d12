-- `data_read::between` meets its contract. Invariant: k places are read. Assumes nothing.
use native.Mathlib.Omega.{arith}
use Rattle.areas.proofs.Stretches.{some}
use Rattle.data_compare.proofs.OnePort.{least}
use Rattle.data_read.proofs.Places.{holes-start, holes-next, holes-on, all_read}
use Rattle.data_read.proofs.between.Goals as goal

pub first_stretch-s-requires : goal.first_stretch-s-requires
first_stretch-s-requires c = (c.requires.0.from, c.requires.0.early, c.requires.0.some)

pub loop-k-init : goal.loop-k-init
loop-k-init c = holes-start c.requires.0 c.requires.1 c.requires.2 c.first_stretch-s.ensures

pub singles-requires : goal.singles-requires
singles-requires c = holes-next c.loop-k.invariant c.loop-k-test.true (least c.min-n.ensures)

pub overflow_add-k : goal.overflow_add-k
overflow_add-k c =
    omega (arith, c.loop-k.invariant.index, c.loop-k-test.true, (least c.min-n.ensures).second)

pub overflow_add-at : goal.overflow_add-at
overflow_add-at c =
    omega (arith, (holes-next c.loop-k.invariant c.loop-k-test.true (least c.min-n.ensures)).0)

pub overflow_add-at-in-loop-k : goal.overflow_add-at-in-loop-k
overflow_add-at-in-loop-k c =
    omega (arith, (holes-next c.loop-k.invariant c.loop-k-test.true (least c.min-n.ensures)).0)

pub loop-k-smaller : goal.loop-k-smaller
loop-k-smaller c =
    omega (arith, c.loop-k-test.true, some c.loop-k.invariant.stretches c.loop-k-test.true (least c.min-n.ensures))

pub loop-k-preserved : goal.loop-k-preserved
loop-k-preserved c =
    holes-on c.loop-k.invariant c.loop-k-test.true (least c.min-n.ensures) c.singles.ensures

pub returns : goal.returns
returns c = all_read c.loop-k.invariant.stretches.few c.loop-k-test.false c.loop-k.invariant.read
