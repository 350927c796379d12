-- The two slots.
use Rattle.layout.proofs.Ways.{slot-first, slot-second}
use Rattle.layout.proofs.in_slot.Goals as goal

pub returns-then-s-slot : goal.returns-then-s-slot
returns-then-s-slot c = slot-first c.args.cell c.args.s _ c.slot_length-slot.ensures c.if-s-slot.true

pub returns-else-s-slot : goal.returns-else-s-slot
returns-else-s-slot c = slot-second c.args.cell c.args.s _ c.slot_length-slot.ensures c.if-s-slot.false
