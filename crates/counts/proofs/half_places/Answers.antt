-- The places of six subcarriers that no reference signal has. Assumes nothing.
use mathlib.Core.Path.{refl, sym, ◌∙◌}
use Rattle.counts.proofs.Signals.{signals-first, signals-second, signals-other}
use Rattle.counts.proofs.half_places.Goals as goal

pub returns-then-crs_uses : goal.returns-then-crs_uses
returns-then-crs_uses c = let a = c.args in
    rw (← signals-first a.cell a.cell.ports a.s (sym c.crs_uses.ensures ∙ c.if-crs_uses.true), ← c.wide-n.ensures) c.pair_places.ensures

pub returns-then-crs_uses-2 : goal.returns-then-crs_uses-2
returns-then-crs_uses-2 c = let a = c.args in
    rw (← signals-second a.cell a.cell.ports a.s (sym c.crs_uses-2.ensures ∙ c.if-crs_uses-2.true), ← c.wide-n.ensures) c.pair_places-then-crs_uses-2.ensures

pub returns : goal.returns
returns c = let a = c.args in
    rw (← signals-other a.cell a.cell.ports a.s (sym c.crs_uses.ensures ∙ c.if-crs_uses.false) (sym c.crs_uses-2.ensures ∙ c.if-crs_uses-2.false)) refl
