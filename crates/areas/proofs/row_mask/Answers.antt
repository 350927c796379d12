-- The free subcarriers of six in a symbol: one law for each return.
use mathlib.Core.Path.{sym, ◌∙◌}
use Rattle.areas.proofs.Masks.{mask_first, mask-second, mask-none}
use Rattle.areas.proofs.row_mask.Goals as goal

pub returns-then-crs_uses : goal.returns-then-crs_uses
returns-then-crs_uses c = let a = c.args in
    rw (c.mask_but.ensures, c.crs_first.ensures) (mask_first a.cell a.signals a.s (sym c.crs_uses.ensures ∙ c.if-crs_uses.true))

pub returns-then-crs_uses-2 : goal.returns-then-crs_uses-2
returns-then-crs_uses-2 c = let a = c.args in
    rw (c.mask_but-then-crs_uses-2.ensures, c.crs_first-then-crs_uses-2.ensures) (mask-second a.cell a.signals a.s (sym c.crs_uses-2.ensures ∙ c.if-crs_uses-2.true))

pub returns : goal.returns
returns c = let a = c.args in
    mask-none a.cell a.signals a.s (sym c.crs_uses.ensures ∙ c.if-crs_uses.false) (sym c.crs_uses-2.ensures ∙ c.if-crs_uses-2.false)
