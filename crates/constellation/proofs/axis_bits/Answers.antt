-- The bits of a level, the sign first. The invariant: the last k bits are still to come.
use native.Mathlib.Omega.{arith}
use Rattle.constellation.proofs.Axes.{part-start, part_step, part-few, part_end}
use Rattle.constellation.proofs.axis_bits.Goals as goal

pub loop-k-init : goal.loop-k-init
loop-k-init c = part-start c.args.n c.args.b c.requires.0 c.requires.1 c.requires.2

pub overflow_mul-m : goal.overflow_mul-m
overflow_mul-m c =
    omega (arith, part-few c.loop-k.invariant c.requires.0)

pub overflow_add-m : goal.overflow_add-m
overflow_add-m c =
    omega (arith, part-few c.loop-k.invariant c.requires.0, c.loop-k.invariant.byte)

pub loop-k-preserved : goal.loop-k-preserved
loop-k-preserved c =
    part_step c.loop-k.invariant c.loop-k-test.true c.power.ensures.0 c.size.ensures.0 c.less-z.ensures.0

pub overflow_cast-result : goal.overflow_cast-result
overflow_cast-result c =
    omega (arith, part-few c.loop-k.invariant c.requires.0)

pub returns : goal.returns
returns c = part_end c.loop-k.invariant (omega arith)
