-- `build::fill_turns` meets its contract: turn after turn. Assumes nothing.
use native.Mathlib.Omega.{arith}
use Rattle.build.proofs.Turns.{having-none, turns-in, control-in, going-first, going-due, going-few, going-room, going-in, going_next, going_end}
use Rattle.schedule.proofs.Steps.{passing, after}
use Rattle.build.proofs.fill_turns.Goals as goal

pub started-control-requires : goal.started-control-requires
started-control-requires c = control-in c.requires.0

pub count-turns-requires : goal.count-turns-requires
count-turns-requires c = turns-in c.requires.0

pub loop-turn-init : goal.loop-turn-init
loop-turn-init c = (having-none c.requires.2, λ r. going-first r c.first-turn.ensures)

pub channel_at-ch-requires : goal.channel_at-ch-requires
channel_at-ch-requires c =
    going-due c.requires.0 (c.loop-turn.invariant.1 c.requires.0) c.count-turns.ensures c.loop-turn-test.true

pub section_of-start-requires : goal.section_of-start-requires
section_of-start-requires c =
    (c.shape_of-shape.ensures, going-few c.requires.0 (c.loop-turn.invariant.1 c.requires.0) c.count-turns.ensures c.loop-turn-test.true c.channel_at-ch.ensures)

pub slice_bounds-fill_turn-count : goal.slice_bounds-fill_turn-count
slice_bounds-fill_turn-count c =
    (going-room c.requires.0 (c.loop-turn.invariant.1 c.requires.0) c.count-turns.ensures c.loop-turn-test.true c.channel_at-ch.ensures c.section_of-start.ensures
    ).0

pub slice_bounds-fill_turn-start : goal.slice_bounds-fill_turn-start
slice_bounds-fill_turn-start c =
    (going-room c.requires.0 (c.loop-turn.invariant.1 c.requires.0) c.count-turns.ensures c.loop-turn-test.true c.channel_at-ch.ensures c.section_of-start.ensures
    ).0

pub slice_bounds-fill_turn-end : goal.slice_bounds-fill_turn-end
slice_bounds-fill_turn-end c =
    (going-room c.requires.0 (c.loop-turn.invariant.1 c.requires.0) c.count-turns.ensures c.loop-turn-test.true c.channel_at-ch.ensures c.section_of-start.ensures
    ).1

pub fill_turn-have-requires : goal.fill_turn-have-requires
fill_turn-have-requires c = (
  going-in c.requires.0 (c.loop-turn.invariant.1 c.requires.0) c.count-turns.ensures c.loop-turn-test.true c.channel_at-ch.ensures c.section_of-start.ensures c.requires.1
      c.loop-turn.invariant.0,
  c.started-control.ensures,
)

pub next-turn-requires : goal.next-turn-requires
next-turn-requires c =
    (_, passing (going-due c.requires.0 (c.loop-turn.invariant.1 c.requires.0) c.count-turns.ensures c.loop-turn-test.true) c.channel_at-ch.ensures c.section_of-start.ensures)

pub loop-turn-smaller : goal.loop-turn-smaller
loop-turn-smaller c = omega (arith, c.loop-turn-test.true, c.next-turn.ensures.number)

pub loop-turn-preserved : goal.loop-turn-preserved
loop-turn-preserved c = (
  c.fill_turn-have.ensures.1,
  λ r.
      let due = going-due r (c.loop-turn.invariant.1 r) c.count-turns.ensures c.loop-turn-test.true in
      going_next r (c.loop-turn.invariant.1 r) c.count-turns.ensures c.loop-turn-test.true c.channel_at-ch.ensures c.section_of-start.ensures c.requires.1 c.fill_turn-have.ensures.0
      (after c.next-turn.ensures (passing due c.channel_at-ch.ensures c.section_of-start.ensures)),
)

pub shape_of-grid : goal.shape_of-grid
shape_of-grid c =
    (c.loop-turn.invariant.1 c.requires.0).written.size

pub returns : goal.returns
returns c =
    going_end c.requires.0 (c.loop-turn.invariant.1 c.requires.0) c.count-turns.ensures c.loop-turn-test.false
