-- `control_read::read_his` meets its contract: after n HIs the section's first n bits are written. Assumes nothing.
use mathlib.Core.Path.{refl}
use native.Mathlib.Omega.{arith}
use Rattle.control.proofs.Sums.{length_most, after-three}
use Rattle.control_read.proofs.Reading.{quads-in, read-start, hi-read, push-in, read_next, read-finish}
use Rattle.control_read.proofs.read_his.Goals as goal

pub first_sums-requires : goal.first_sums-requires
first_sums-requires c =
    quads-in c.requires.each refl

pub loop-n-init : goal.loop-n-init
loop-n-init c =
    read-start c.requires c.args.r

pub bit_of-bit-requires : goal.bit_of-bit-requires
bit_of-bit-requires c =
    hi-read c.requires c.args.r c.loop-n.invariant c.loop-n-test.true c.spread_length-l.ensures c.hi_at.ensures

pub push-requires : goal.push-requires
push-requires c =
    push-in c.requires c.args.r c.loop-n.invariant c.loop-n-test.true c.first_sums.ensures c.word-w.ensures
    c.spread_length-l.ensures c.hi_at.ensures c.bit_of-bit.ensures

pub loop-n-preserved : goal.loop-n-preserved
loop-n-preserved c =
    read_next c.requires c.args.r c.loop-n.invariant c.loop-n-test.true c.first_sums.ensures c.word-w.ensures
    c.spread_length-l.ensures c.hi_at.ensures c.bit_of-bit.ensures c.push.ensures c.next_at-at.ensures

pub overflow_mul-l : goal.overflow_mul-l
overflow_mul-l c =
    omega (arith, length_most c.args.cell c.spread_length-l.ensures)

pub returns : goal.returns
returns c = (
  read-finish c.requires c.args.r c.loop-n.invariant c.loop-n-test.false,
  after-three c.args.cell c.args.r
      c.spread_length-l.ensures c.skip.ensures,
)
