-- The tests of a symbol, in turn.
use borrow.Author.Tests.{eq-eqb, ne_eqb, lt-ltb, le-ltb}
use mathlib.Core.Path.{refl}
use native.Mathlib.Omega.{arith}
use Rattle.layout.proofs.Pilot.{slot-length}
use Rattle.layout.proofs.Ways.{third-is}
use Rattle.layout.specs.Rules.{crs_symbol}
use Rattle.layout.proofs.crs_uses.Goals as goal

pub overflow_sub-result : goal.overflow_sub-result
overflow_sub-result c = omega (arith, slot-length c.args.cell, c.slot_length.ensures)

pub returns-then-l-eq0 : goal.returns-then-l-eq0
unfolding crs_symbol
returns-then-l-eq0 c = rw (← c.in_slot-l.ensures, lt-ltb _ _ c.if-port-lt2.true, eq-eqb _ _ c.if-l-eq0.true) refl

pub returns-else-l-eq0 : goal.returns-else-l-eq0
unfolding crs_symbol
returns-else-l-eq0 c =
    rw (← c.in_slot-l.ensures, lt-ltb _ _ c.if-port-lt2.true, ne_eqb _ _ c.if-l-eq0.false, c.slot_length.ensures) (third-is c.args.cell
    c.in_slot-l.result)

pub returns : goal.returns
unfolding crs_symbol
returns c = rw (← c.in_slot-l.ensures, le-ltb _ _ c.if-port-lt2.false) refl
