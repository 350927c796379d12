-- The byte of a level, from its five lowest bits.
use Rattle.constellation.proofs.Axes.{from-above, from-below}
use Rattle.constellation.proofs.byte_from.Goals as goal

pub returns-then-x-lt16 : goal.returns-then-x-lt16
returns-then-x-lt16 c = from-above c.args.x c.if-x-lt16.true

pub returns-else-x-lt16 : goal.returns-else-x-lt16
returns-else-x-lt16 c = from-below c.args.x c.if-x-lt16.false c.requires
