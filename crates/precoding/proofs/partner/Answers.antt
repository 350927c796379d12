-- `precoding::partner` meets its contract. Assumes nothing.
use Rattle.precoding.proofs.Ports.{partner-even, partner-odd}
use Rattle.precoding.proofs.partner.Goals as goal

pub returns-then-odd-eq0 : goal.returns-then-odd-eq0
returns-then-odd-eq0 c =
    partner-even c.args.odd c.args.e c.requires c.if-odd-eq0.true

pub returns-else-odd-eq0 : goal.returns-else-odd-eq0
returns-else-odd-eq0 c =
    partner-odd c.args.odd c.args.e c.requires c.if-odd-eq0.false
