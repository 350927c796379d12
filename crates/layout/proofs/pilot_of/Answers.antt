-- The two ports, in turn.
use borrow.Author.Tests.{eq-eqb, ne_eqb}
use mathlib.Core.Path.{refl}
use Rattle.layout.specs.Rules.{stands_at}
use Rattle.layout.specs.Chain.{pilot_of}
use Rattle.layout.proofs.pilot_of.Goals as goal

pub returns-then-k-crs_first : goal.returns-then-k-crs_first
unfolding pilot_of stands_at
returns-then-k-crs_first c = rw (← c.crs_first.ensures, eq-eqb _ _ c.if-k-crs_first.true) refl

pub returns-then-k-crs_first-2 : goal.returns-then-k-crs_first-2
unfolding pilot_of stands_at
returns-then-k-crs_first-2 c = rw (← c.crs_first.ensures, ← c.crs_first-2.ensures, ne_eqb _ _ c.if-k-crs_first.false, eq-eqb _ _ c.if-k-crs_first-2.true) refl

pub returns : goal.returns
unfolding pilot_of stands_at
returns c = rw (← c.crs_first.ensures, ← c.crs_first-2.ensures, ne_eqb _ _ c.if-k-crs_first.false, ne_eqb _ _ c.if-k-crs_first-2.false) refl
