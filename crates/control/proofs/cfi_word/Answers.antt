-- `control::cfi_word` meets its contract: four bits make a word. Assumes nothing.
use Rattle.codeword.specs.Codewords.{cfi_bit}
use Rattle.control.proofs.Words.{bits-word}
use Rattle.control.proofs.cfi_word.Goals as goal

pub returns : goal.returns
returns c =
    bits-word (cfi_bit c.args.cfi) c.args.i _ _ _ _ c.cfi_bit-a.ensures.0 c.cfi_bit-b.ensures.0 c.cfi_bit-c.ensures.0
    c.cfi_bit-d.ensures.0
