-- `mapper::plus` meets its contract: below 2^63 the bits are the number. Assumes nothing.
use mir.Syntax.{w64}
use mir.Facts.{to_z_pos}
use Rattle.mapper.proofs.plus.Goals as goal

pub returns : goal.returns
returns c = to_z_pos w64 c.requires
