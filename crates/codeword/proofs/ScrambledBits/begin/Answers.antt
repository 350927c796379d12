-- `codeword::ScrambledBits::begin` meets its contract. Assumes nothing.
use Rattle.codeword.proofs.Words.{last-is, begins48}
use Rattle.codeword.proofs.ScrambledBits.begin.Goals as goal

pub returns : goal.returns
returns c =
    begins48 c.args.bits.now c.args.r _ _ _ _ c.widen-wide.ensures
    (last-is c.args.bits.now _ _ c.last_at.ensures c.last_bits-last.ensures)
    c.bits48.ensures c.word48.ensures
