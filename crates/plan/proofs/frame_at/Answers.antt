-- `plan::frame_at` meets its contract: the operands of FRAME. Assumes nothing.
use lib.ListN.{drop}
use Rattle.plan.proofs.Reading.{frame_made}
use Rattle.plan.proofs.frame_at.Goals as goal

pub returns : goal.returns
returns c =
    frame_made (drop c.args.at c.args.plan.now) _ _ _ c.word.ensures c.byte_at.ensures c.byte_at-2.ensures _ _
    c.byte_at-3.ensures c.byte_at-4.ensures
