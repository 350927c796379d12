-- `build::fill` meets its contract: every turn over silence. Assumes nothing.
use mathlib.Core.Path.{refl, ◌∙◌}
use Rattle.base.specs.Tables.{table}
use Rattle.build.proofs.Turns.{silent-kept, ready-silent, filled-whole}
use Rattle.build.proofs.fill.Goals as goal

pub sum_units-requires : goal.sum_units-requires
unfolding table
sum_units-requires c = (c.requires.answer, c.requires.right.size, refl)

pub fill_turns-requires : goal.fill_turns-requires
unfolding table
fill_turns-requires c =
    (ready-silent c.requires c.silence.ensures, record { rows = c.row_masks.ensures; made = c.sum_units.ensures }, refl)

pub shape_of-grid : goal.shape_of-grid
shape_of-grid c =
    c.fill_turns.ensures.size ∙ silent-kept c.args.grid.now c.silence.ensures

pub returns : goal.returns
returns c =
    filled-whole c.requires c.silence.ensures c.fill_turns.ensures
