-- `plan::hi_at` meets its contract: the operands of HI. Assumes nothing.
use lib.ListN.{drop}
use Rattle.plan.proofs.Reading.{hi-made}
use Rattle.plan.proofs.hi_at.Goals as goal

pub returns : goal.returns
returns c =
    hi-made (drop c.args.at c.args.plan.now) _ _ c.byte_at.ensures c.byte_at-2.ensures
