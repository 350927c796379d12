-- `codeword::bits32` meets its contract: four bytes are 32 bits. Assumes nothing.
use Rattle.codeword.proofs.Words.{four_bytes}
use Rattle.codeword.proofs.bits32.Goals as goal

pub returns : goal.returns
returns c =
    four_bytes c.args.bits.now c.args.at _ _ _ _ c.byte_within-a.ensures c.byte_within-b.ensures
    c.byte_within-c.ensures c.byte_within-d.ensures
