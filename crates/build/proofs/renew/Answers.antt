-- `build::renew` meets its contract: the table is made for the order, or it is the order's already. Assumes nothing.
use Rattle.build.proofs.Orders.{same-order}
use Rattle.build.proofs.renew.Goals as goal

pub set_table-requires : goal.set_table-requires
set_table-requires c = (c.requires.0.size, c.requires.1)

pub returns-else-ne : goal.returns-else-ne
returns-else-ne c = c.requires.0.table c.args.order (same-order c.args.have c.args.order c.ne.ensures c.if-ne.false)
