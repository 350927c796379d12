-- One law for each return.
use native.Mathlib.Omega.{arith}
use Rattle.layout.proofs.Ways.{area-early, area-frame, area_in, area-late}
use Rattle.layout.proofs.Pilot.{slot-length}
use Rattle.layout.proofs.in_broadcast.Goals as goal

pub returns-then-frame-ne0 : goal.returns-then-frame-ne0
returns-then-frame-ne0 c = area-frame c.args.cell c.args.frame c.args.s c.args.k c.if-frame-ne0.true

pub returns-then-s-slot : goal.returns-then-s-slot
returns-then-s-slot c =
    area-early c.args.cell c.args.frame c.args.s c.args.k _ c.slot_length-slot.ensures c.if-frame-ne0.false c.if-s-slot.true

pub overflow_add-slot : goal.overflow_add-slot
overflow_add-slot c = omega (arith, slot-length c.args.cell, c.slot_length-slot.ensures)

pub in_middle-requires : goal.in_middle-requires
in_middle-requires c = omega arith

pub returns-then-s-slot-2 : goal.returns-then-s-slot-2
returns-then-s-slot-2 c =
    area_in c.args.cell c.args.frame c.args.s c.args.k _ c.slot_length-slot.ensures c.if-frame-ne0.false c.if-s-slot.false
    c.if-s-slot-2.true _ c.in_middle.ensures

pub returns-else-s-slot-2 : goal.returns-else-s-slot-2
returns-else-s-slot-2 c =
    area-late c.args.cell c.args.frame c.args.s c.args.k _ c.slot_length-slot.ensures c.if-frame-ne0.false c.if-s-slot.false
    c.if-s-slot-2.false
