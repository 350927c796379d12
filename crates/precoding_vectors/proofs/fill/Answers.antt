-- `precoding_vectors::fill` writes place by place into a grid that stays as long as it was. Assumes nothing.
use mathlib.Core.Path.{sym, ap, ◌∙◌}
use native.Mathlib.Omega.{arith}
use lib.ListN.{length}
use Rattle.base.proofs.Tables.{table-length}
use Rattle.grid.proofs.Writing.{room-kept}
use Rattle.precoding_vectors.proofs.fill.Goals as goal

pub loop-j-init : goal.loop-j-init
loop-j-init c = let r = c.requires.0 in
    (record { some = r.some; most = r.most; not_three = r.not_three; fits = r.fits; size = ap length c.silence.ensures ∙ table-length _ _ ∙ r.size }, omega arith)

pub put_place-requires : goal.put_place-requires
put_place-requires c =
    (c.loop-j.invariant.0, c.loop-j-test.true, c.symbol-e.ensures)

pub loop-j-preserved : goal.loop-j-preserved
loop-j-preserved c = (room-kept c.loop-j.invariant.0 c.put_place.ensures, omega arith)

pub shape_of-grid : goal.shape_of-grid
shape_of-grid c = c.loop-j.invariant.0.size ∙ sym c.requires.0.size

pub returns : goal.returns
returns c = c.loop-j.invariant.0
