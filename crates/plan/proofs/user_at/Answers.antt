-- `plan::user_at` meets its contract: the operands of USER. Assumes nothing.
use lib.ListN.{drop}
use Rattle.plan.proofs.Reading.{user-made}
use Rattle.plan.proofs.user_at.Goals as goal

pub returns : goal.returns
returns c =
    user-made (drop c.args.at c.args.plan.now) _ _ _ c.word.ensures c.byte_at.ensures c.byte_at-2.ensures _ _ _
    c.byte_at-3.ensures c.byte_at-4.ensures c.byte_at-5.ensures
