-- `walk::first_stretch` meets its contract. Assumes nothing.
use native.Mathlib.Omega.{arith}
use Rattle.walk.proofs.Singles.{stretch-lead, stretch-hole}
use Rattle.walk.proofs.first_stretch.Goals as goal

pub returns-then-lead-eq0 : goal.returns-then-lead-eq0
returns-then-lead-eq0 c = stretch-hole c.args.first c.args.lead c.args.each c.if-lead-eq0.true c.requires.2

pub returns : goal.returns
returns c = stretch-lead c.args.first c.args.lead c.args.each (omega (arith, c.if-lead-eq0.false)) c.requires.1
