-- `pdcch_read::read_given` meets its contract. Invariant: the given ones of the first e elements are read. Assumes nothing.
use Prim.Native.Nat.{◌<◌}
use mathlib.Core.Path.{◌∙◌}
use native.Mathlib.Omega.{arith}
use lib.ListN.{length-take}
use lib.Seq.{get_or-take}
use Rattle.pdcch_read.proofs.Elements.{element-in, given-start, given-room, given-on, given-end}
use Rattle.pdcch_read.proofs.read_given.Goals as goal

pub loop-e-init : goal.loop-e-init
loop-e-init c = given-start c.requires

pub read_chosen-s-requires : goal.read_chosen-s-requires
read_chosen-s-requires c =
    let few : c.loop-e.e < c.args.elements = omega (arith, c.loop-e-test.true, length-take c.args.elements c.args.from.now) in
    let is = c.from.ensures ∙ get_or-take c.args.elements c.args.from.now c.loop-e.e 0 few in
    (element-in c.loop-e.e c.requires few, omega (arith, is, given-room c.requires c.loop-e.invariant))

pub loop-e-preserved : goal.loop-e-preserved
loop-e-preserved c =
    let few : c.loop-e.e < c.args.elements = omega (arith, c.loop-e-test.true, length-take c.args.elements c.args.from.now) in
    let is = c.from.ensures ∙ get_or-take c.args.elements c.args.from.now c.loop-e.e 0 few in
    given-on c.requires c.loop-e.invariant few is c.read_chosen-s.ensures

pub returns : goal.returns
returns c = given-end c.requires c.loop-e.invariant (omega (arith, c.loop-e-test.false, length-take c.args.elements c.args.from.now, c.requires.few, c.told-from))
