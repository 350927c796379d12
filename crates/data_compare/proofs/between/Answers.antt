-- `data_compare::between` meets its contract. Invariant: the first k places are compared. Assumes nothing.
use native.Mathlib.Omega.{arith}
use Rattle.areas.proofs.Stretches.{some, stretch-in}
use Rattle.data_compare.proofs.OnePort.{least, holes-start, holes-on, all_seen}
use Rattle.data_compare.proofs.between.Goals as goal

pub first_stretch-s-requires : goal.first_stretch-s-requires
first_stretch-s-requires c = (c.requires.from, c.requires.early, c.requires.some)

pub loop-k-init : goal.loop-k-init
loop-k-init c = holes-start c.first_stretch-s.ensures

pub singles-bad-requires : goal.singles-bad-requires
singles-bad-requires c = stretch-in c.loop-k.invariant.stretches c.loop-k-test.true (least c.min-n.ensures) c.requires

pub overflow_add-k : goal.overflow_add-k
overflow_add-k c = omega (arith, c.loop-k-test.true, (least c.min-n.ensures).second)

pub overflow_add-at : goal.overflow_add-at
overflow_add-at c =
    omega (arith, stretch-in c.loop-k.invariant.stretches c.loop-k-test.true (least c.min-n.ensures) c.requires)

pub overflow_add-at-in-loop-k : goal.overflow_add-at-in-loop-k
overflow_add-at-in-loop-k c =
    omega (arith, stretch-in c.loop-k.invariant.stretches c.loop-k-test.true (least c.min-n.ensures) c.requires)

pub loop-k-smaller : goal.loop-k-smaller
loop-k-smaller c =
    omega (arith, c.loop-k-test.true, some c.loop-k.invariant.stretches c.loop-k-test.true (least c.min-n.ensures))

pub loop-k-preserved : goal.loop-k-preserved
loop-k-preserved c = holes-on c.loop-k.invariant c.loop-k-test.true (least c.min-n.ensures) c.singles-bad.ensures

pub returns : goal.returns
returns c = all_seen c.loop-k.invariant.stretches.few c.loop-k-test.false c.loop-k.invariant.done
