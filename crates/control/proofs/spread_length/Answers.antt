-- `control::spread_length` meets its contract. Assumes nothing.
use Rattle.control.proofs.Sums.{length_two, length-four}
use Rattle.control.proofs.spread_length.Goals as goal

pub returns-then-cell-eq1 : goal.returns-then-cell-eq1
returns-then-cell-eq1 c = length_two c.args.cell c.if-cell-eq1.true

pub returns-else-cell-eq1 : goal.returns-else-cell-eq1
returns-else-cell-eq1 c = length-four c.args.cell c.if-cell-eq1.false
