-- `control::cfi_bit` meets its contract: the codeword's 0, and its 1s. Assumes nothing.
use Rattle.control.proofs.Words.{codeword-bit}
use Rattle.control.proofs.cfi_bit.Goals as goal

pub returns : goal.returns
returns c = codeword-bit c.args.cfi c.args.i c.requires.0 c.requires.1 c.from.ensures c.from-2.ensures
