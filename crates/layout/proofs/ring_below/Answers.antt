-- The two stretches of the ring.
use mathlib.Core.Path.{refl}
use Rattle.layout.proofs.VacantWays.{ring-sum}
use Rattle.layout.proofs.ring_below.Goals as goal

pub returns : goal.returns
returns c =
    ring-sum c.args.h c.args.p c.args.m c.args.x refl c.between.ensures.0 c.less.ensures
    c.less-2.ensures c.between-2.ensures.0
