-- `signals::crs_port` meets its contract. Assumes nothing.
use mathlib.Core.Path.{refl}
use Rattle.signals.specs.Signals.{crs_port}
use Rattle.signals.proofs.crs_port.Goals as goal

pub returns-then-crs_uses : goal.returns-then-crs_uses
unfolding crs_port
returns-then-crs_uses c = rw (← c.crs_uses.ensures, c.if-crs_uses.true) refl

pub returns-else-crs_uses : goal.returns-else-crs_uses
unfolding crs_port
returns-else-crs_uses c = rw (← c.crs_uses.ensures, c.if-crs_uses.false) refl
