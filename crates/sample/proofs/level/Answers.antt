-- `sample::level` meets its contract. Assumes nothing.
use mir.Facts.{to_z-of_z}
use Rattle.sample.proofs.Bounds.{exactly}
use Rattle.sample.proofs.level.Goals as goal

pub returns : goal.returns
returns c = (rw (to_z-of_z c.ranges.i), exactly c.args.i c.ranges.i)
