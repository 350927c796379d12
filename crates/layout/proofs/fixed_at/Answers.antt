-- One law for each return.
use native.Mathlib.Omega.{arith}
use Rattle.layout.proofs.Ways.{fix-control, fix-crs, fix-held, fix-hole, fix-idle, fix-pbch, fix-primary, fix-secondary}
use Rattle.layout.proofs.fixed_at.Goals as goal

pub returns-then-q-cell : goal.returns-then-q-cell
returns-then-q-cell c =
    fix-crs c.args.cell c.args.frame c.args.s c.args.k _ c.pilot_at-q.ensures c.if-q-cell.true

pub control_at-requires : goal.control_at-requires
control_at-requires c = omega arith

pub returns-then-s-lt3 : goal.returns-then-s-lt3
returns-then-s-lt3 c =
    fix-control c.args.cell c.args.frame c.args.s c.args.k _ c.pilot_at-q.ensures c.if-q-cell.false c.if-s-lt3.true _
    c.control_at.ensures

pub in_sync-requires : goal.in_sync-requires
in_sync-requires c = omega arith

pub in_middle-requires : goal.in_middle-requires
in_middle-requires c = omega arith

pub overflow_add-s : goal.overflow_add-s
overflow_add-s c = omega arith

pub returns-then-s-slot_length : goal.returns-then-s-slot_length
returns-then-s-slot_length c =
    fix-primary c.args.cell c.args.frame c.args.s c.args.k _ c.pilot_at-q.ensures c.if-q-cell.false c.if-s-lt3.false _
    c.in_sync.ensures c.if-in_sync.true _ c.in_middle.ensures _ c.slot_length.ensures c.if-in_middle.true c.if-s-slot_length.true

pub returns-then-in_middle : goal.returns-then-in_middle
returns-then-in_middle c =
    fix-secondary c.args.cell c.args.frame c.args.s c.args.k _ c.pilot_at-q.ensures c.if-q-cell.false c.if-s-lt3.false _
    c.in_sync.ensures c.if-in_sync.true _ c.in_middle.ensures _ c.slot_length.ensures c.if-in_middle.true c.if-s-slot_length.false

pub returns-then-in_sync : goal.returns-then-in_sync
returns-then-in_sync c =
    fix-held c.args.cell c.args.frame c.args.s c.args.k _ c.pilot_at-q.ensures c.if-q-cell.false c.if-s-lt3.false _
    c.in_sync.ensures c.if-in_sync.true _ c.in_middle.ensures c.if-in_middle.false

pub in_broadcast-requires : goal.in_broadcast-requires
in_broadcast-requires c = omega arith

pub returns-then-q-lt4 : goal.returns-then-q-lt4
returns-then-q-lt4 c =
    fix-hole c.args.cell c.args.frame c.args.s c.args.k _ c.pilot_at-q.ensures c.if-q-cell.false c.if-s-lt3.false _
    c.in_sync.ensures c.if-in_sync.false _ c.in_broadcast.ensures c.if-in_broadcast.true c.if-q-lt4.true

pub returns-then-in_broadcast : goal.returns-then-in_broadcast
returns-then-in_broadcast c =
    fix-pbch c.args.cell c.args.frame c.args.s c.args.k _ c.pilot_at-q.ensures c.if-q-cell.false c.if-s-lt3.false _
    c.in_sync.ensures c.if-in_sync.false _ c.in_broadcast.ensures c.if-in_broadcast.true c.if-q-lt4.false

pub returns : goal.returns
returns c =
    fix-idle c.args.cell c.args.frame c.args.s c.args.k _ c.pilot_at-q.ensures c.if-q-cell.false c.if-s-lt3.false _
    c.in_sync.ensures c.if-in_sync.false _ c.in_broadcast.ensures c.if-in_broadcast.false
