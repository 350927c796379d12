-- A byte with eight bits of the sequence taken off.
use mathlib.Core.Path.{◌∙◌}
use Rattle.pdcch_read.proofs.Bytes.{byte-is}
use Rattle.pdcch_read.proofs.unscrambled.Goals as goal

pub returns : goal.returns
returns c = byte-is c.args.s c.requires (c.from.ensures ∙ c.word.ensures)
