-- `plan::his_from` meets its contract: the loop over the HIs. Its invariant is `HisGoing`, its measure what is left of the plan. Assumes nothing.
use mathlib.Core.Path.{sym}
use native.Mathlib.Omega.{arith}
use lib.ListN.{drop}
use Rattle.plan.specs.CommandLists.{his_from}
use Rattle.plan.proofs.Phases.{his-first, his-done, AtHi, his-less, his-refused, his-word, his-again}
use Rattle.plan.proofs.Reading.{stands-hi}
use Rattle.plan.proofs.his_from.Goals as goal
use Rattle.plan.proofs.his_from.Goals.{After-hi_cause}

-- the HI at the loop's position, and its cause
step : (c : After-hi_cause) →
    AtHi c.args.plan.now c.args.cell c.args.start c.loop-cell.count c.loop-cell.at c.loop-cell.pairs c.hi_at-h.result c.hi_cause.result
step c =
    let w = c.args.plan.now in
    record {
      going = c.loop-cell.invariant;
      ok = c.requires.1;
      there = stands-hi (drop c.loop-cell.at w) c.stands.ensures c.loop-cell-test.true c.hi_at-h.ensures;
      cause = c.hi_cause.ensures (his_from (drop c.args.start w) c.loop-cell.count) c.loop-cell.invariant.used;
    }

pub loop-cell-init : goal.loop-cell-init
loop-cell-init c = his-first c.args.plan.now c.args.cell c.args.start c.requires.0

pub stands-requires : goal.stands-requires
stands-requires c = c.loop-cell.invariant.standing.room

pub hi_cause-requires : goal.hi_cause-requires
hi_cause-requires c = c.requires.1

pub slice_bounds-add-end : goal.slice_bounds-add-end
slice_bounds-add-end c = sym c.loop-cell.invariant.words

pub add-requires : goal.add-requires
add-requires c = his-word (step (goal.at.add-requires c).After-hi_cause) c.in-Ok.is c.pair_of.ensures

pub overflow_add-count : goal.overflow_add-count
overflow_add-count c = omega arith

pub loop-cell-smaller : goal.loop-cell-smaller
loop-cell-smaller c = his-less (step (goal.at.loop-cell-smaller c).After-hi_cause) c.next_at-at.ensures

pub loop-cell-preserved : goal.loop-cell-preserved
loop-cell-preserved c =
    his-again (step (goal.at.loop-cell-preserved c).After-hi_cause) c.in-Ok.is c.pair_of.ensures c.add.ensures c.next_at-at.ensures

pub overflow_add-count-in-Err : goal.overflow_add-count-in-Err
overflow_add-count-in-Err c = omega arith

pub returns-in-Err : goal.returns-in-Err
returns-in-Err c = his-refused (step (goal.at.returns-in-Err c).After-hi_cause) c.in-Err.is c.found.ensures

pub returns : goal.returns
returns c = his-done c.loop-cell.invariant c.stands.ensures c.loop-cell-test.false
