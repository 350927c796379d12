-- `plan::users_from` meets its contract: the loop over the USERs, then END. Its invariant is `UsersGoing`, its measure what is left of the plan. Assumes nothing.
use Prim.Native.Nat.{◌+◌, ◌*◌}
use mathlib.Core.Path.{refl, ◌∙◌}
use native.Mathlib.Omega.{arith}
use lib.ListN.{drop}
use Rattle.plan.specs.CommandLists.{users_from}
use Rattle.plan.proofs.Phases.{users-first, users-done, AtUser, users-less, users-refused, users-again}
use Rattle.plan.proofs.Reading.{stands-user}
use Rattle.plan.proofs.users_from.Goals as goal
use Rattle.plan.proofs.users_from.Goals.{After-user_cause}

-- the USER at the loop's position, and its cause
step : (c : After-user_cause) →
    AtUser c.args.plan.now c.args.cell c.args.frame c.args.start c.args.his (c.args.start + 3 * c.args.his) c.loop-rntis.users c.loop-rntis.at c.loop-rntis.rntis
    c.loop-rntis.blocks c.user_at-u.result c.user_cause.result
step c =
    let w = c.args.plan.now in
    let mid = c.args.start + 3 * c.args.his in
    record {
      going = c.loop-rntis.invariant;
      ok = c.requires.1;
      there = stands-user (drop c.loop-rntis.at w) c.stands.ensures c.loop-rntis-test.true c.user_at-u.ensures;
      cause = c.user_cause.ensures (users_from (drop mid w) c.loop-rntis.users) c.loop-rntis.invariant.used;
    }

pub overflow_mul-mid : goal.overflow_mul-mid
overflow_mul-mid c = omega (arith, c.requires.0.room)

pub overflow_add-mid : goal.overflow_add-mid
overflow_add-mid c = omega (arith, c.requires.0.room)

pub loop-rntis-init : goal.loop-rntis-init
loop-rntis-init c =
    users-first c.args.plan.now c.args.cell c.args.frame c.args.start c.args.his _ c.requires.0 refl

pub stands-requires : goal.stands-requires
stands-requires c = c.loop-rntis.invariant.standing.room

pub offset_bounds-rntis-users : goal.offset_bounds-rntis-users
offset_bounds-rntis-users c = omega (arith, c.loop-rntis.invariant.few)

pub bounds-rntis-users : goal.bounds-rntis-users
bounds-rntis-users c = omega (arith, c.loop-rntis.invariant.few)

pub overflow_add-users : goal.overflow_add-users
overflow_add-users c = omega (arith, c.loop-rntis.invariant.few)

pub loop-rntis-smaller : goal.loop-rntis-smaller
loop-rntis-smaller c = users-less (step (goal.at.loop-rntis-smaller c).After-user_cause) c.next_at-at.ensures

pub loop-rntis-preserved : goal.loop-rntis-preserved
loop-rntis-preserved c =
    users-again (step (goal.at.loop-rntis-preserved c).After-user_cause) c.in-Ok.is c.blocks_of.ensures c.join-blocks.ensures c.next_at-at.ensures

pub overflow_add-his : goal.overflow_add-his
overflow_add-his c =
    omega (arith, c.requires.0.room, c.loop-rntis.invariant.few)

pub overflow_add-his-in-Err : goal.overflow_add-his-in-Err
overflow_add-his-in-Err c =
    omega (arith, c.requires.0.room, c.loop-rntis.invariant.few)

pub returns-in-Err : goal.returns-in-Err
returns-in-Err c = users-refused (step (goal.at.returns-in-Err c).After-user_cause) c.in-Err.is c.found.ensures

pub finish-requires : goal.finish-requires
finish-requires c =
    users-done c.loop-rntis.invariant c.requires.0 c.stands.ensures c.loop-rntis-test.false

pub returns : goal.returns
returns c = c.finish.ensures ∙ c.loop-rntis.invariant.same
