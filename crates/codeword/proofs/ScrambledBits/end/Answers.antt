-- `codeword::ScrambledBits::end` meets its contract: from where the word in use begins to the last bit taken. Assumes nothing.
use native.Mathlib.Omega.{arith}
use Rattle.codeword.proofs.Words.{ends-within, ends-none, ends-whole}
use Rattle.codeword.proofs.ScrambledBits.end.Goals as goal

pub returns-then-left-lt48 : goal.returns-then-left-lt48
returns-then-left-lt48 c =
    ends-within c.args.r c.args.self.now _ c.narrow-p.ensures _ c.if-left-lt48.true c.skip.ensures

pub returns-then-self-eq6 : goal.returns-then-self-eq6
returns-then-self-eq6 c =
    ends-none c.args.r c.args.self.now _ c.narrow-p.ensures (omega (arith, c.requires, c.if-left-lt48.false)) c.if-self-eq6.true

pub returns : goal.returns
returns c =
    ends-whole c.args.r c.args.self.now _ c.narrow-p.ensures (omega (arith, c.requires, c.if-left-lt48.false)) c.if-self-eq6.false
