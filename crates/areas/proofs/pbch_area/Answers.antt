-- PBCH's area is the one that the specs name.
use native.Mathlib.Omega.{arith}
use Rattle.areas.proofs.Made.{pbch-made}
use Rattle.layout.proofs.Pilot.{slot-length}
use Rattle.areas.proofs.pbch_area.Goals as goal

pub overflow_add-result : goal.overflow_add-result
overflow_add-result c = omega (arith, c.slot_length-slot.ensures, slot-length c.args.cell)

pub returns : goal.returns
returns c =
    pbch-made c.args.cell c.args.frame c.slot_length-slot.result c.slot_length-slot.ensures c.from-blocks.result
    c.from-blocks.ensures
