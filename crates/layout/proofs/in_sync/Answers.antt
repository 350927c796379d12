-- One law for each return.
use native.Mathlib.Omega.{arith}
use Rattle.layout.proofs.Ways.{sync-earlier, sync-last, sync-no, sync-unmarked}
use Rattle.layout.proofs.in_sync.Goals as goal

pub overflow_add-s : goal.overflow_add-s
overflow_add-s c = omega arith

pub in_middle-requires : goal.in_middle-requires
in_middle-requires c = omega arith

pub returns-then-s-slot : goal.returns-then-s-slot
returns-then-s-slot c =
    sync-last c.args.cell c.args.frame c.args.s c.args.k _ c.slot_length-slot.ensures _ c.is_marked.ensures
    c.if-is_marked.true c.if-s-slot.true _ c.in_middle.ensures

pub overflow_add-s-then-is_marked : goal.overflow_add-s-then-is_marked
overflow_add-s-then-is_marked c = omega arith

pub in_middle-requires-then-s-slot-2 : goal.in_middle-requires-then-s-slot-2
in_middle-requires-then-s-slot-2 c = omega arith

pub returns-then-s-slot-2 : goal.returns-then-s-slot-2
returns-then-s-slot-2 c =
    sync-earlier c.args.cell c.args.frame c.args.s c.args.k _ c.slot_length-slot.ensures _ c.is_marked.ensures
    c.if-is_marked.true c.if-s-slot-2.true _ c.in_middle-then-s-slot-2.ensures

pub returns-else-s-slot-2 : goal.returns-else-s-slot-2
returns-else-s-slot-2 c =
    sync-no c.args.cell c.args.frame c.args.s c.args.k _ c.slot_length-slot.ensures _ c.is_marked.ensures
    c.if-is_marked.true c.if-s-slot.false c.if-s-slot-2.false

pub returns-else-is_marked : goal.returns-else-is_marked
returns-else-is_marked c =
    sync-unmarked c.args.cell c.args.frame c.args.s c.args.k _ c.slot_length-slot.ensures _ c.is_marked.ensures
    c.if-is_marked.false
