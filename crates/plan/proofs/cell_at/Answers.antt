-- `plan::cell_at` meets its contract: CELL has the normal duration. Assumes nothing.
use Rattle.plan.specs.Commands.{cell_of}
use Rattle.plan.proofs.cell_at.Goals as goal

pub returns : goal.returns
unfolding cell_of
returns c = c.cell_with.ensures
