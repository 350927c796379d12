-- `verify::compare_all` meets its contract: turn after turn. Assumes nothing.
use mathlib.Core.Path.{refl, sym, ◌∙◌}
use native.Mathlib.Omega.{arith}
use Rattle.base.specs.Tables.{table}
use Rattle.schedule.proofs.Steps.{start-few, passing, after}
use Rattle.verify.proofs.Channels.{control-starts, units-read, count-ready, sums-due, going-first, due, planned, few-both, going_more, going-pass, going_end}
use Rattle.verify.proofs.compare_all.Goals as goal
use Rattle.verify.proofs.compare_all.Goals.{then-present, else-present}

pub started-control-requires : goal.started-control-requires
started-control-requires c = control-starts c.args.plan.now c.args.p c.requires

pub sums_again-requires : goal.sums_again-requires
unfolding table
sums_again-requires c = (units-read c.args.plan.now c.args.p c.requires, refl)

pub count-turns-requires : goal.count-turns-requires
count-turns-requires c =
    count-ready c.args.plan.now c.args.p c.requires

pub loop-turn-init : goal.loop-turn-init
loop-turn-init c =
    let units = sums-due c.args.plan.now c.args.p c.requires c.started-control.ensures c.sums_again.ensures in
    going-first c.args.plan.now c.args.p c.requires c.started-control.ensures units c.row_masks.ensures c.shape_of-shape.ensures
    c.count-turns.ensures c.first-turn.ensures

pub channel_at-ch-requires : goal.channel_at-ch-requires
channel_at-ch-requires c = due c.loop-turn.invariant c.loop-turn-test.true

pub section_of-section-requires : goal.section_of-section-requires
section_of-section-requires c = let so = c.loop-turn.invariant in
    (so.shape_is, start-few (due so c.loop-turn-test.true) c.channel_at-ch.ensures)

pub compare_channel-requires : goal.compare_channel-requires
compare_channel-requires c =
    (_, planned c.loop-turn.invariant c.loop-turn-test.true c.channel_at-ch.ensures (sym c.present.ensures ∙ c.if-present.true), c.loop-turn.invariant.shared)

pub together-seen-requires : goal.together-seen-requires
together-seen-requires c =
    few-both c.loop-turn.invariant c.loop-turn-test.true c.channel_at-ch.ensures (sym c.present.ensures ∙ c.if-present.true) _ c.compare_channel.ensures

pub next-turn-requires : goal.next-turn-requires
next-turn-requires c =
    (_, passing (due c.loop-turn.invariant c.loop-turn-test.true) c.channel_at-ch.ensures c.section_of-section.ensures)

pub loop-turn-preserved : goal.loop-turn-preserved
loop-turn-preserved c =
    let so = c.loop-turn.invariant in let is = c.channel_at-ch.ensures in let has = c.present.ensures in
    let next = after c.next-turn.ensures (passing (due so c.loop-turn-test.true) is c.section_of-section.ensures) in
    elim c.if-present.branch [
      | then-present w ↦
          rw w.seen-is (going_more so c.loop-turn-test.true is _ next (sym has ∙ w.if-present.true) _ w.compare_channel.ensures w.together-seen.ensures)
      | else-present w ↦ rw w.seen-is (going-pass so c.loop-turn-test.true is _ next (sym has ∙ w.if-present.false))
    ]

pub returns : goal.returns
returns c = going_end c.loop-turn.invariant c.loop-turn-test.false
