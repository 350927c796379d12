-- `gold::start` meets its contract: x1 is a constant, and x2 a sum of values of its window. Assumes nothing.
use mathlib.Core.Path.{refl}
use Rattle.gold.proofs.At1600.{start_is}
use Rattle.gold.proofs.start.Goals as goal

pub returns : goal.returns
returns c =
    start_is _ c.args.c_init _ _ _ c.mirrored-b.ensures c.fed2.ensures c.windowed-z.ensures refl refl
