-- `control_read::push` meets its contract: the byte's bits before it stay, and the first bit of a byte clears it. Assumes nothing.
use native.Mathlib.Omega.{arith}
use Rattle.control_read.proofs.Packing.{first_bit, later-bit, held-zero, held-some}
use Rattle.control_read.proofs.push.Goals as goal

pub overflow_mul-part : goal.overflow_mul-part
overflow_mul-part c = omega (arith, c.requires.fits, held-zero c.args.part.now c.args.n c.if-k-eq0.true)

pub returns-then-k-eq0 : goal.returns-then-k-eq0
returns-then-k-eq0 c = first_bit c.args.part.now c.args.n c.args.bit c.if-k-eq0.true

pub overflow_mul-part-2 : goal.overflow_mul-part-2
overflow_mul-part-2 c =
    omega (arith, c.requires.fits, held-some c.args.part.now c.args.n c.if-k-eq0.false)

pub overflow_add-part : goal.overflow_add-part
overflow_add-part c =
    omega (arith, c.requires.fits, held-some c.args.part.now c.args.n c.if-k-eq0.false)

pub returns : goal.returns
returns c =
    later-bit c.args.part.now c.args.n c.args.bit c.if-k-eq0.false
