-- `codeword::last_bits` meets its contract. The loop has read i bytes. Assumes nothing.
use native.Mathlib.Omega.{arith}
use Rattle.codeword.proofs.Words.{read_none, read-lt, read_more, read_done}
use Rattle.codeword.proofs.last_bits.Goals as goal

pub loop-i-init : goal.loop-i-init
loop-i-init c = read_none c.args.bits.now c.args.from

pub overflow_mul-w : goal.overflow_mul-w
overflow_mul-w c = omega (arith, read-lt c.loop-i.invariant c.loop-i-test.true)

pub overflow_add-w : goal.overflow_add-w
overflow_add-w c = omega (arith, read-lt c.loop-i.invariant c.loop-i-test.true, c.byte_at.ensures.1)

pub loop-i-preserved : goal.loop-i-preserved
loop-i-preserved c = read_more c.loop-i.invariant c.loop-i-test.true c.byte_at.ensures

pub returns : goal.returns
returns c = read_done c.loop-i.invariant c.loop-i-test.false
