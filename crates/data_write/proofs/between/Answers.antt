-- `data_write::between` meets its contract. Invariant: k places are filled. Assumes nothing.
use native.Mathlib.Omega.{arith}
use Rattle.data_write.proofs.OnePort.{holes-start, holes-next, holes-on, all_placed}
use Rattle.areas.proofs.Stretches.{some}
use Rattle.areas.proofs.Tables.{smaller-min}
use Rattle.data_write.proofs.Filled.{later-sending}
use Rattle.data_write.proofs.between.Goals as goal

pub loop-k-init : goal.loop-k-init
loop-k-init c = holes-start c.first_stretch-s.ensures

pub singles-requires : goal.singles-requires
singles-requires c = (
  holes-next c.requires.0 c.loop-k.invariant c.loop-k-test.true (smaller-min c.min-n.ensures),
  omega (arith, c.requires.1, c.loop-k-test.true, (smaller-min c.min-n.ensures).second),
  later-sending c.requires.2 c.loop-k.invariant.done.stands,
)

pub overflow_add-k : goal.overflow_add-k
overflow_add-k c =
    omega (arith, c.requires.1, c.loop-k-test.true, (smaller-min c.min-n.ensures).second)

pub overflow_add-at : goal.overflow_add-at
overflow_add-at c =
    omega (arith, holes-next c.requires.0 c.loop-k.invariant c.loop-k-test.true (smaller-min c.min-n.ensures))

pub overflow_add-at-in-loop-k : goal.overflow_add-at-in-loop-k
overflow_add-at-in-loop-k c =
    omega (arith, holes-next c.requires.0 c.loop-k.invariant c.loop-k-test.true (smaller-min c.min-n.ensures))

pub loop-k-smaller : goal.loop-k-smaller
loop-k-smaller c =
    omega (arith, c.loop-k-test.true, some c.loop-k.invariant.stretches c.loop-k-test.true (smaller-min c.min-n.ensures))

pub loop-k-preserved : goal.loop-k-preserved
loop-k-preserved c = holes-on c.requires.0 c.loop-k.invariant
    c.loop-k-test.true (smaller-min c.min-n.ensures) c.singles.ensures

pub returns : goal.returns
returns c = all_placed c.loop-k.invariant.stretches.few c.loop-k-test.false c.loop-k.invariant.done
