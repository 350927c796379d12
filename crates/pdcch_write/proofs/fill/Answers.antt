-- `pdcch_write::fill` meets its contract: after e control elements those below e are written where they are given. Assumes nothing.
use Prim.Native.Nat.{◌<◌}
use native.Mathlib.Omega.{arith}
use lib.ListN.{length-take}
use lib.Seq.{get_or-take}
use Rattle.pdcch_write.proofs.Elements.{elements-start, element-in, elements-next, elements-end}
use Rattle.pdcch_write.proofs.fill.Goals as goal

pub loop-e-init : goal.loop-e-init
loop-e-init c = elements-start c.args.cell c.args.elements c.args.groups.now c.args.from.now c.args.bits.now c.args.r c.args.grid.now

pub put_given-s-requires : goal.put_given-s-requires
put_given-s-requires c =
    let few : c.loop-e.e < c.args.elements = omega (arith, c.loop-e-test.true, length-take c.args.elements c.args.from.now) in
    rw (get_or-take c.args.elements c.args.from.now c.loop-e.e 0 few) (element-in c.loop-e.invariant c.requires few)

pub loop-e-preserved : goal.loop-e-preserved
loop-e-preserved c =
    let few : c.loop-e.e < c.args.elements = omega (arith, c.loop-e-test.true, length-take c.args.elements c.args.from.now) in
    elements-next c.loop-e.invariant few (rw (get_or-take c.args.elements c.args.from.now c.loop-e.e 0 few) at c.put_given-s.ensures)

pub returns : goal.returns
returns c =
    elements-end c.loop-e.invariant c.requires
    (omega (arith, c.loop-e-test.false, length-take c.args.elements c.args.from.now, c.requires.count, c.requires.given.few, c.requires.given.size))
