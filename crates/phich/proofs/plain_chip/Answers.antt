-- `phich::plain_chip` meets its contract: an entry of a table is small, so that the sum and the difference of its parts fit. Assumes nothing.
use Rattle.std.proofs.Common.{arith, w8}
use Rattle.base.proofs.Pairs.{pair-of}
use Rattle.phich.proofs.Signed.{sum_fits, sum_is, difference-fits, difference-is}
use Rattle.phich.proofs.plain_chip.Goals as goal

pub overflow_sub-result : goal.overflow_sub-result
overflow_sub-result c = let w = c.args.w in difference-fits w8 w.re w.im (omega (arith, c.requires))

pub overflow_add-result : goal.overflow_add-result
overflow_add-result c = let w = c.args.w in sum_fits w8 w.re w.im (omega (arith, c.requires))

pub returns : goal.returns
returns c = let w = c.args.w in
    pair-of
    (difference-is w8 w.re w.im (omega (arith, c.requires)))
    (sum_is w8 w.re w.im (omega (arith, c.requires)))
