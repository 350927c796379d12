-- `plan::in_common` meets its contract, by what is asked for. Assumes nothing.
use lib.ListN.{drop}
use Rattle.plan.proofs.Clashes.{common-pair, common-rnti, common-block}
use Rattle.plan.proofs.in_common.Goals as goal

pub returns-in-Pair : goal.returns-in-Pair
returns-in-Pair c =
    let a = c.args in
    let w = a.plan.now in
    common-pair (drop a.at w) (drop a.before w) c.hi_at.ensures c.hi_at-in-Pair.ensures c.in-Pair.is c.same_pair.ensures

pub returns-in-Rnti : goal.returns-in-Rnti
returns-in-Rnti c =
    let a = c.args in
    let w = a.plan.now in
    common-rnti (drop a.at w) (drop a.before w) c.user_at.ensures c.user_at-in-Rnti.ensures c.in-Rnti.is c.same_rnti.ensures

pub returns-in-Block : goal.returns-in-Block
returns-in-Block c =
    let a = c.args in
    let w = a.plan.now in
    common-block (drop a.at w) (drop a.before w) c.user_at-in-Block.ensures c.user_at-in-Block-2.ensures c.in-Block.is c.shares_block.ensures
