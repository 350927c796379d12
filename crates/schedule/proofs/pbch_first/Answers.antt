-- `schedule::pbch_first` meets its contract: the two prefixes. Assumes nothing.
use Rattle.schedule.proofs.Starts.{extended, normal}
use Rattle.schedule.proofs.pbch_first.Goals as goal

pub returns-then-cell-eq1 : goal.returns-then-cell-eq1
returns-then-cell-eq1 c = extended c.args.cell c.args.frame c.if-cell-eq1.true

pub returns-else-cell-eq1 : goal.returns-else-cell-eq1
returns-else-cell-eq1 c = normal c.args.cell c.args.frame c.if-cell-eq1.false
