-- `plan::earlier_of` meets its contract: none where nothing is in common, else the loop over the commands before. The invariant: the first from here on is the one
-- asked for. The measure is how many are left. Assumes nothing.
use mathlib.Core.Path.{refl}
use lib.ListN.{drop}
use Rattle.plan.specs.Finding.{earlier_of}
use Rattle.plan.proofs.Clashes.{clash-nothing, clash-test, clash-none, clash-here, clash-later}
use Rattle.plan.proofs.earlier_of.Goals as goal

pub returns-in-Nothing : goal.returns-in-Nothing
returns-in-Nothing c = let a = c.args in
    clash-nothing a.plan.now a.n a.at c.in-Nothing.is

pub loop-number-init : goal.loop-number-init
unfolding earlier_of
loop-number-init c = refl

pub returns-then-byte_at-code : goal.returns-then-byte_at-code
returns-then-byte_at-code c =
    let a = c.args in
    let w = a.plan.now in
    let m = c.loop-number.number in
    let b = c.loop-number.before in
    let test = clash-test (drop a.at w) (drop b w) a.s c.byte_at-code.ensures c.byte_at.ensures c.in_common.ensures in
    clash-here w a.n a.at a.s m b c.loop-number-test.true c.loop-number.invariant test c.if-byte_at-code.true

pub loop-number-preserved : goal.loop-number-preserved
loop-number-preserved c =
    let a = c.args in
    let w = a.plan.now in
    let m = c.loop-number.number in
    let b = c.loop-number.before in
    let test = clash-test (drop a.at w) (drop b w) a.s c.byte_at-code.ensures c.byte_at.ensures c.in_common.ensures in
    clash-later w a.n a.at a.s m b c.loop-number-test.true c.loop-number.invariant test c.if-byte_at-code.false c.next_at-before.ensures

pub returns : goal.returns
returns c =
    let a = c.args in
    clash-none a.plan.now a.n a.at a.s c.loop-number.number c.loop-number.before c.loop-number-test.false c.loop-number.invariant
