-- `read::read_sections` meets its contract: the HIs' section, then turn after turn, each into its own section. Assumes nothing.
use native.Mathlib.Omega.{arith}
use mathlib.Core.Path.{refl, sym, ◌∙◌}
use Rattle.build.proofs.Orders.{never}
use Rattle.schedule.proofs.Steps.{start-few, passing, after}
use Rattle.read.proofs.Turns.{acks-begin, acks-room, acks-in, acks-read, count-in, due, loop-room, loop-needs, loop-read, all_read}
use Rattle.read.proofs.read_sections.Goals as goal

pub section_of-from-requires : goal.section_of-from-requires
section_of-from-requires c = (c.shape_of-shape.ensures, omega arith)

pub started-r-requires : goal.started-r-requires
started-r-requires c = acks-begin c.requires

pub slice_bounds-read_his-count : goal.slice_bounds-read_his-count
slice_bounds-read_his-count c =
    (acks-room c.requires _ c.section_of-from.ensures).0

pub slice_bounds-read_his-start : goal.slice_bounds-read_his-start
slice_bounds-read_his-start c = (acks-room c.requires _ c.section_of-from.ensures).0

pub slice_bounds-read_his-end : goal.slice_bounds-read_his-end
slice_bounds-read_his-end c =
    (acks-room c.requires _ c.section_of-from.ensures).1

pub read_his-requires : goal.read_his-requires
read_his-requires c =
    acks-in c.requires _ c.section_of-from.ensures

pub count-turns-requires : goal.count-turns-requires
count-turns-requires c =
    count-in c.requires

pub loop-turn-init : goal.loop-turn-init
loop-turn-init c =
    let so = acks-read c.requires _ c.section_of-from.ensures _ c.started-r.ensures _ c.read_his.ensures.0 _ c.after_signals-turn.ensures in
    (so.0, so.1, (refl, λ q n. absurd (never n)))

pub channel_at-ch-requires : goal.channel_at-ch-requires
channel_at-ch-requires c =
    due c.requires c.loop-turn.invariant.0 c.count-turns.ensures c.loop-turn-test.true

pub section_of-start-requires : goal.section_of-start-requires
section_of-start-requires c =
    (c.shape_of-shape.ensures, start-few (due c.requires c.loop-turn.invariant.0 c.count-turns.ensures c.loop-turn-test.true) c.channel_at-ch.ensures)

pub slice_bounds-read_channel-count : goal.slice_bounds-read_channel-count
slice_bounds-read_channel-count c =
    (loop-room c.requires c.loop-turn.invariant.0 c.count-turns.ensures c.loop-turn-test.true
    c.channel_at-ch.ensures c.loop-turn.invariant.1 _ c.section_of-start.ensures).0

pub slice_bounds-read_channel-start : goal.slice_bounds-read_channel-start
slice_bounds-read_channel-start c =
    (loop-room c.requires c.loop-turn.invariant.0 c.count-turns.ensures c.loop-turn-test.true
    c.channel_at-ch.ensures c.loop-turn.invariant.1 _ c.section_of-start.ensures).0

pub slice_bounds-read_channel-end : goal.slice_bounds-read_channel-end
slice_bounds-read_channel-end c =
    (loop-room c.requires c.loop-turn.invariant.0 c.count-turns.ensures c.loop-turn-test.true
    c.channel_at-ch.ensures c.loop-turn.invariant.1 _ c.section_of-start.ensures).1

pub read_channel-have-requires : goal.read_channel-have-requires
read_channel-have-requires c =
    let own = loop-needs c.requires c.loop-turn.invariant.0 c.count-turns.ensures c.loop-turn-test.true
    c.channel_at-ch.ensures c.loop-turn.invariant.1 _ c.section_of-start.ensures in
    record { own = own; axis = c.loop-turn.invariant.2; rows = c.row_masks.ensures }

pub next-turn-requires : goal.next-turn-requires
next-turn-requires c =
    let turn = due c.requires c.loop-turn.invariant.0 c.count-turns.ensures c.loop-turn-test.true in
    (_, passing turn c.channel_at-ch.ensures c.section_of-start.ensures)

pub loop-turn-smaller : goal.loop-turn-smaller
loop-turn-smaller c =
    omega (arith, c.next-turn.ensures.number, c.loop-turn-test.true)

pub loop-turn-preserved : goal.loop-turn-preserved
loop-turn-preserved c =
    let turn = due c.requires c.loop-turn.invariant.0 c.count-turns.ensures c.loop-turn-test.true in
    let next = after c.next-turn.ensures (passing turn c.channel_at-ch.ensures c.section_of-start.ensures) in
    let had = loop-read c.requires c.loop-turn.invariant.0 c.count-turns.ensures c.loop-turn-test.true
    c.channel_at-ch.ensures c.loop-turn.invariant.1 _ c.section_of-start.ensures _ next _ c.read_channel-have.ensures.1 in
    (next.0, had, c.read_channel-have.ensures.0)

pub shape_of-payload : goal.shape_of-payload
shape_of-payload c =
    c.loop-turn.invariant.1.size ∙ sym c.requires.size

pub returns : goal.returns
returns c =
    all_read c.requires c.loop-turn.invariant.0 c.count-turns.ensures c.loop-turn-test.false c.loop-turn.invariant.1
