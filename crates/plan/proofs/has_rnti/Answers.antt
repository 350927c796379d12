-- `plan::has_rnti` meets its contract. The invariant: what was found before `i`, or is there from `i` on, is what the table has. The measure is what is left. Assumes nothing.
use Rattle.plan.proofs.OneOf.{looked-step, looked-last}
use Rattle.plan.proofs.has_rnti.Goals as goal

pub loop-x-preserved : goal.loop-x-preserved
loop-x-preserved c =
    looked-step c.args.rnti c.args.table.now c.loop-x.x-index c.loop-x.found c.loop-x-test.true c.loop-x.invariant

pub returns : goal.returns
returns c =
    looked-last c.args.rnti c.args.table.now c.loop-x.x-index c.loop-x.found c.loop-x-test.false c.loop-x.invariant
