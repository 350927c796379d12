-- The two pairs of ports, in turn.
use mathlib.Core.Path.{refl}
use Rattle.layout.specs.Chain.{pilot}
use Rattle.layout.proofs.pilot_at.Goals as goal

pub returns-then-crs_uses : goal.returns-then-crs_uses
unfolding pilot
returns-then-crs_uses c = rw (← c.crs_uses.ensures, c.if-crs_uses.true) c.pilot_of.ensures

pub returns-then-crs_uses-2 : goal.returns-then-crs_uses-2
unfolding pilot
returns-then-crs_uses-2 c =
    rw (← c.crs_uses.ensures, ← c.crs_uses-2.ensures, c.if-crs_uses.false, c.if-crs_uses-2.true) c.pilot_of-then-crs_uses-2.ensures

pub returns : goal.returns
unfolding pilot
returns c = rw (← c.crs_uses.ensures, ← c.crs_uses-2.ensures, c.if-crs_uses.false, c.if-crs_uses-2.false) refl
