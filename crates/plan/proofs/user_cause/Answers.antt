-- `plan::user_cause` meets its contract: the fields of USER, then the RNTIs and the blocks before. Assumes nothing.
use Rattle.std.proofs.Common.{◌≤◌, ◌+◌}
use native.Mathlib.Omega.{arith}
use Rattle.std.proofs.Common.{rules}
use borrow.Author.Tests.{leb-true}
use Rattle.plan.specs.Finding.{user_cause}
use Rattle.plan.proofs.CauseLaws.{held, failed, user-rnti-used, user-tests}
use Rattle.plan.proofs.user_cause.Goals as goal

pub returns-in_err-demand : goal.returns-in_err-demand
unfolding user_cause
returns-in_err-demand c us s = search rules

pub returns-in_err-demand-2 : goal.returns-in_err-demand-2
unfolding user_cause
returns-in_err-demand-2 c us s = search rules

pub returns-in_err-demand-3 : goal.returns-in_err-demand-3
unfolding user_cause
returns-in_err-demand-3 c us s = search rules

pub returns-in_err-demand-4 : goal.returns-in_err-demand-4
unfolding user_cause
returns-in_err-demand-4 c us s = search rules

pub returns-in_err-demand-5 : goal.returns-in_err-demand-5
returns-in_err-demand-5 c us s =
    let a = c.args in
    let h : 1 ≤ c.args.u.rnti = leb-true _ _ (held _ _ c.demand.ensures c.in_ok-demand.was) in
    let t = held _ _ c.demand-2.ensures c.in_ok-demand-2.was in
    let k : 1 ≤ c.args.u.count = leb-true _ _ (held _ _ c.demand-3.ensures c.in_ok-demand-3.was) in
    let l : c.args.u.first + c.args.u.count ≤ c.args.cell.blocks = leb-true _ _ (held _ _ c.demand-4.ensures c.in_ok-demand-4.was) in
    let q = user-rnti-used a.cell a.u h (omega arith) c.one_of.ensures t k l a.rntis.now a.blocks.now c.has_rnti.ensures us s (failed _ _ c.demand-5.ensures c.in_err-demand-5.was) in
    rw (← q) (search rules)

pub returns : goal.returns
returns c us s =
    let a = c.args in
    let h : 1 ≤ c.args.u.rnti = leb-true _ _ (held _ _ c.demand.ensures c.in_ok-demand.was) in
    let t = held _ _ c.demand-2.ensures c.in_ok-demand-2.was in
    let k : 1 ≤ c.args.u.count = leb-true _ _ (held _ _ c.demand-3.ensures c.in_ok-demand-3.was) in
    let l : c.args.u.first + c.args.u.count ≤ c.args.cell.blocks = leb-true _ _ (held _ _ c.demand-4.ensures c.in_ok-demand-4.was) in
    user-tests a.cell a.u h (omega arith) c.one_of.ensures t k l a.rntis.now a.blocks.now c.has_rnti.ensures us s (held _ _ c.demand-5.ensures c.in_ok-demand-5.was)
    c.blocks_of.ensures c.meets.ensures c.demand-6.ensures
