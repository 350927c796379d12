-- `phich::quad_sums` sums with the bits that it is lent. Assumes nothing.
use Rattle.base.specs.Bits.{bit_at}
use Rattle.phich.proofs.quad_sums.Given as goal

abbrev pub ghost-sum_his : goal.ghost-sum_his
ghost-sum_his a = bit_at a.bit.0.now
