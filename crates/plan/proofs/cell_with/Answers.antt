-- `plan::cell_with` meets its contract: the operands that CELL and CELLX have. Assumes nothing.
use lib.ListN.{drop}
use Rattle.plan.proofs.Reading.{cell-made}
use Rattle.plan.proofs.cell_with.Goals as goal

pub returns : goal.returns
returns c =
    cell-made (drop c.args.at c.args.plan.now) _ _ _ c.word.ensures c.byte_at.ensures c.byte_at-2.ensures _ _ _ _ _
    c.byte_at-3.ensures c.byte_at-4.ensures c.byte_at-5.ensures c.byte_at-6.ensures
