-- `pdcch_write::scrambled` meets its contract. Assumes nothing.
use mathlib.Core.Path.{ap₂, ◌∙◌}
use lib.Bits.{bit_xor}
use native.Mathlib.Omega.{arith}
use Rattle.pdcch_write.proofs.scrambled.Goals as goal

pub returns : goal.returns
returns c = (ap₂ bit_xor c.from.ensures (c.from-2.ensures ∙ c.word.ensures), omega (arith, c.ranges.b))
