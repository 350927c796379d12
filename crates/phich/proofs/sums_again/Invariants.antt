-- `phich::sums_again` sums with the bits that the first quads' sums give. Assumes nothing.
use Rattle.std.proofs.Common.{drop}
use Rattle.plan.specs.CommandLists.{his_from}
use Rattle.phich.specs.Spreading.{word_bit}
use Rattle.phich.specs.Loops.{bits_from}
use Rattle.phich.proofs.sums_again.Given as goal

abbrev pub ghost-sum_his : goal.ghost-sum_his
ghost-sum_his a = bits_from a.l (word_bit a.bit.1.now) (his_from (drop a.at a.plan.now) a.count) a.bit.2.now
