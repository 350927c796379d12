-- `precoding::own_port` meets its contract. Assumes nothing.
use Rattle.precoding.proofs.Ports.{own-four, own-less}
use Rattle.precoding.proofs.own_port.Goals as goal

pub returns-then-ports-eq4 : goal.returns-then-ports-eq4
returns-then-ports-eq4 c = own-four c.args.ports c.args.pair c.if-ports-eq4.true

pub returns-else-ports-eq4 : goal.returns-else-ports-eq4
returns-else-ports-eq4 c = own-less c.args.ports c.args.pair c.if-ports-eq4.false
