-- `phich::sums_again` meets its contract: each HI's bit is what the first quads' sums give. Assumes nothing.
use Rattle.std.proofs.Common.{rules}
use borrow.Author.Rules.{lives}
use Rattle.phich.specs.Loops.{bits_from}
use Rattle.phich.proofs.sums_again.Goals as goal

pub sum_his-requires : goal.sum_his-requires
unfolding bits_from
sum_his-requires c κs within = (search (lives, within.0, within.1.0, within.1.1.0) depth 14, (c.requires.0, (c.requires.1, (λ k h i. search rules, λ k r m p. search rules))))
