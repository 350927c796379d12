-- `precoding::unit_on` meets its contract. Assumes nothing.
use Rattle.precoding.proofs.Ports.{unit-one, unit-more}
use Rattle.precoding.proofs.unit_on.Goals as goal

pub returns-then-ports-eq1 : goal.returns-then-ports-eq1
returns-then-ports-eq1 c = unit-one c.args.ports c.args.unit c.if-ports-eq1.true

pub returns-else-ports-eq1 : goal.returns-else-ports-eq1
returns-else-ports-eq1 c = unit-more c.args.ports c.args.unit c.if-ports-eq1.false
