-- The given ones of the first e elements are compared.
use mathlib.Core.Path.{sym, ◌∙◌}
use Prim.Native.Nat.{◌<◌}
use native.Mathlib.Omega.{arith}
use lib.ListN.{length-take}
use lib.Seq.{get_or-take}
use Rattle.pdcch_compare.proofs.Elements.{is-chosen, given-start, given-pass, given-on, given-small, given-end, given-wrong, table_of}
use Rattle.pdcch_compare.proofs.compare_given.Goals as goal
use Rattle.pdcch_compare.proofs.compare_given.Goals.{then-is_given, else-is_given}

pub loop-e-init : goal.loop-e-init
loop-e-init c = given-start

pub compare_quads-bad-requires : goal.compare_quads-bad-requires
compare_quads-bad-requires c =
    let few : c.loop-e.e < c.args.elements = omega (arith, c.loop-e-test.true, length-take c.args.elements c.args.from.now) in
    table_of c.args.elements c.loop-e.e c.requires.0 few

pub overflow_add-given : goal.overflow_add-given
overflow_add-given c = omega (arith, given-small c.loop-e.invariant c.requires.1)

pub loop-e-preserved : goal.loop-e-preserved
loop-e-preserved c =
    let few : c.loop-e.e < c.args.elements = omega (arith, c.loop-e-test.true, length-take c.args.elements c.args.from.now) in
    let given = rw (get_or-take c.args.elements c.args.from.now c.loop-e.e 0 few) at c.is_given.ensures in
    elim c.if-is_given.branch [
      | then-is_given w ↦ rw (w.given-is, w.bad-is) (given-on c.loop-e.invariant few (is-chosen (sym given ∙ w.if-is_given.true) w.compare_quads-bad.ensures))
      | else-is_given w ↦ rw (w.given-is, w.bad-is) (given-pass c.loop-e.invariant few (sym given ∙ w.if-is_given.false))
    ]

pub returns-then-bad-eq0 : goal.returns-then-bad-eq0
returns-then-bad-eq0 c = rw c.if-bad-eq0.true at (given-end c.loop-e.invariant (omega (arith, c.loop-e-test.false, length-take c.args.elements c.args.from.now, c.requires.1, c.told-from)))

pub returns-else-bad-eq0 : goal.returns-else-bad-eq0
returns-else-bad-eq0 c = given-wrong c.if-bad-eq0.false (given-end c.loop-e.invariant (omega (arith, c.loop-e-test.false, length-take c.args.elements c.args.from.now, c.requires.1, c.told-from)))
