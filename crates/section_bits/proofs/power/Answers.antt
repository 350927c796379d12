-- A power of two below 2 ^ 49, by a shift.
use Rattle.section_bits.proofs.Packing.{power-is}
use Rattle.section_bits.proofs.power.Goals as goal

pub returns : goal.returns
returns c = power-is c.args.n c.requires
