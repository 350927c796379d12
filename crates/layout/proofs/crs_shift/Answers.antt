-- The tests of the shift, in turn.
use borrow.Author.Tests.{eq-eqb, ne_eqb, lt-ltb, le-ltb}
use mathlib.Core.Path.{refl}
use Rattle.layout.proofs.Ways.{shift_is}
use Rattle.layout.proofs.crs_shift.Goals as goal

pub returns-then-in_slot-eq0 : goal.returns-then-in_slot-eq0
returns-then-in_slot-eq0 c =
    rw (shift_is _ _ c.args.s c.requires, lt-ltb _ _ c.if-port-lt2.true, ← c.in_slot.ensures, eq-eqb _ _ c.if-in_slot-eq0.true) refl

pub returns-then-port-lt2 : goal.returns-then-port-lt2
returns-then-port-lt2 c =
    rw (shift_is _ _ c.args.s c.requires, lt-ltb _ _ c.if-port-lt2.true, ← c.in_slot.ensures, ne_eqb _ _ c.if-in_slot-eq0.false) refl

pub returns-then-s-slot_length : goal.returns-then-s-slot_length
returns-then-s-slot_length c =
    rw (shift_is _ _ c.args.s c.requires, le-ltb _ _ c.if-port-lt2.false, ← c.slot_length.ensures, lt-ltb _ _ c.if-s-slot_length.true) refl

pub returns-else-s-slot_length : goal.returns-else-s-slot_length
returns-else-s-slot_length c =
    rw (shift_is _ _ c.args.s c.requires, le-ltb _ _ c.if-port-lt2.false, ← c.slot_length.ensures, le-ltb _ _ c.if-s-slot_length.false) refl
