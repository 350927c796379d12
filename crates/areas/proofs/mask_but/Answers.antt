-- All six bits but two. The two are different, so that neither difference goes below 0.
use native.Mathlib.Omega.{arith}
use Rattle.areas.proofs.Masks.{bits-room, bit-most, mask_is}
use Rattle.areas.proofs.mask_but.Goals as goal

pub overflow_sub-result : goal.overflow_sub-result
overflow_sub-result c = omega (arith, c.bit_if.ensures, bit-most c.args.a c.args.v)

pub overflow_sub-result-2 : goal.overflow_sub-result-2
overflow_sub-result-2 c =
    omega
    (arith, bits-room c.args.v c.bit_if.result c.bit_if-2.result c.args.a c.args.b c.bit_if.ensures c.bit_if-2.ensures c.requires)

pub returns : goal.returns
returns c =
    mask_is c.args.v c.bit_if.result c.bit_if-2.result c.args.a c.args.b c.bit_if.ensures
    c.bit_if-2.ensures
