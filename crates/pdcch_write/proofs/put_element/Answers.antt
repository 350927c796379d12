-- `pdcch_write::put_element` meets its contract: after i quads of the element those are written. Assumes nothing.
use native.Mathlib.Omega.{arith}
use Rattle.pdcch_write.proofs.Elements.{quads-start, quad-in, quads-next, quads-end}
use Rattle.pdcch_write.proofs.put_element.Goals as goal

pub loop-i-init : goal.loop-i-init
loop-i-init c =
    quads-start c.args.cell c.args.groups.now c.args.e c.args.bits.now c.args.r c.args.grid.now

pub put_quad-requires : goal.put_quad-requires
put_quad-requires c =
    quad-in c.loop-i.invariant (omega (arith, c.requires.1)) c.places-places.ensures c.gap_of-six.ensures c.pairs_of-x.ensures c.requires.0

pub loop-i-preserved : goal.loop-i-preserved
loop-i-preserved c =
    quads-next c.loop-i.invariant (omega (arith, c.requires.1)) c.places-places.ensures c.gap_of-six.ensures c.pairs_of-x.ensures
    c.scrambled.ensures c.put_quad.ensures c.advance-s.ensures

pub returns : goal.returns
returns c = quads-end c.loop-i.invariant (omega (arith, c.requires.1, c.loop-i-test.false))
