-- `read::axis_for` meets its contract: the table is there, or is made. Assumes nothing.
use Rattle.build.proofs.Orders.{same-order}
use Rattle.read.proofs.axis_for.Goals as goal

pub returns-else-ne : goal.returns-else-ne
returns-else-ne c = c.requires.0.1 c.args.order (same-order c.args.have c.args.order c.ne.ensures c.if-ne.false)
