-- `codeword::ScrambledBits::next48` meets its contract. Assumes nothing.
use Rattle.codeword.proofs.Words.{next48-is}
use Rattle.codeword.proofs.ScrambledBits.next48.Goals as goal

pub returns : goal.returns
returns c =
    next48-is c.args.bits.now c.args.self.now _ _ _ c.advance48-w.ensures c.bits48.ensures c.word48.ensures
