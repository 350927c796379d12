-- One number more.
use native.Mathlib.Omega.{arith}
use Prim.Native.Nat.{◌*◌}
use Rattle.plan.proofs.Counts.{blocks-least}
use Rattle.pdcch.proofs.Taken.{marked-none, marked_more, format-spot, format-few}
use Rattle.pdcch.proofs.mark_format.Goals as goal

pub format_group-requires : goal.format_group-requires
format_group-requires c =
    (blocks-least c.args.cell c.requires.0, c.requires.1)

pub overflow_mul-format_group : goal.overflow_mul-format_group
overflow_mul-format_group c =
    omega (arith, format-few c.args.cell c.requires.0 c.args.i c.format_group.ensures)

pub add-requires : goal.add-requires
add-requires c =
    omega (arith, format-few c.args.cell c.requires.0 c.args.i c.format_group.ensures, c.requires.2)

pub returns : goal.returns
returns c =
    marked_more c.args.taken.now c.args.taken.now (3 * c.format_group.result) (marked-none c.args.taken.now c.requires.2)
    (omega (arith, format-few c.args.cell c.requires.0 c.args.i c.format_group.ensures))
    (format-spot c.args.cell c.requires.0 c.args.i c.format_group.ensures) c.add.ensures
