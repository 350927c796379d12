-- `codeword::ScrambledBits::take_rest` meets its contract: bits of the word, with 48 more below it where they are too few. Assumes nothing.
use native.Mathlib.Omega.{arith}
use Rattle.codeword.proofs.Taking.{take-early, next_small, takes-left, takes-more}
use Rattle.codeword.proofs.ScrambledBits.take_rest.Goals as goal

pub returns-then-n-left : goal.returns-then-n-left
returns-then-n-left c =
    takes-left c.args.self.now c.args.h c.requires c.if-n-left.true

pub next48-next-requires : goal.next48-next-requires
next48-next-requires c =
    take-early c.args.self.now c.args.h c.requires

pub joined-requires : goal.joined-requires
joined-requires c =
    next_small c.args.self.now c.args.h c.requires c.next48-next.ensures

pub returns : goal.returns
returns c =
    takes-more c.args.self.now c.args.h c.requires (omega (arith, c.if-n-left.false)) c.next48-next.ensures c.joined.ensures
