-- The four entries of a word with two bits more in front: the law of widening, by the bytes that the code computes.
use native.Mathlib.Omega.{arith}
use Rattle.constellation.proofs.Quarters.{quarter-room, widened-by}
use Rattle.constellation.proofs.widen.Goals as goal

pub offset_bounds-t-x : goal.offset_bounds-t-x
offset_bounds-t-x c =
    omega (arith, quarter-room c.requires.3 c.requires.1 c.power-n.ensures.0, c.requires.0.size)

pub bounds-t-x : goal.bounds-t-x
bounds-t-x c =
    omega (arith, quarter-room c.requires.3 c.requires.1 c.power-n.ensures.0, c.requires.0.size)

pub set_four-requires : goal.set_four-requires
set_four-requires c =
    (c.requires.0.size, quarter-room c.requires.3 c.requires.1 c.power-n.ensures.0)

pub returns : goal.returns
returns c =
    widened-by c.requires.0 c.requires.1 c.requires.2 c.requires.3 c.ranges.byte.fits
    c.from-u.ensures c.power-n.ensures.0 c.power-h.ensures.0
    c.less-i.ensures.0 c.less-j.ensures.0 c.less-minus_i.ensures.0 c.less-minus_j.ensures.0
    c.three-a.ensures c.three-b.ensures c.three-c.ensures c.three-d.ensures c.set_four.ensures
