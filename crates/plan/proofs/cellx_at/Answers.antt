-- `plan::cellx_at` meets its contract: CELLX has a duration of its own. Assumes nothing.
use lib.ListN.{drop}
use Rattle.plan.proofs.Reading.{cellx-made}
use Rattle.plan.proofs.cellx_at.Goals as goal

pub returns : goal.returns
returns c =
    let a = c.args in
    cellx-made (drop a.at a.plan.now) _ c.byte_at.ensures c.cell_with.ensures
