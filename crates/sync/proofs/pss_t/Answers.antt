-- `sync::pss_t` meets its contract. Assumes nothing.
use Rattle.sync.proofs.Triangles.{t-first, t-second}
use Rattle.sync.proofs.pss_t.Goals as goal

pub returns-then-i-le30 : goal.returns-then-i-le30
returns-then-i-le30 c = t-first c.args.i c.triangle.result c.if-i-le30.true c.triangle.ensures

pub returns-else-i-le30 : goal.returns-else-i-le30
returns-else-i-le30 c = t-second c.args.i c.triangle-else-i-le30.result c.if-i-le30.false c.triangle-else-i-le30.ensures
