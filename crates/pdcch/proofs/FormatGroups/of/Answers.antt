-- A cell has six blocks or more.
use native.Mathlib.Omega.{arith}
use Rattle.plan.proofs.Counts.{blocks-least}
use Rattle.pdcch.proofs.FormatGroups.of.Goals as goal

pub format_group-requires : goal.format_group-requires
format_group-requires c = (blocks-least c.args.cell c.requires, omega arith)

pub format_group-requires-2 : goal.format_group-requires-2
format_group-requires-2 c = (blocks-least c.args.cell c.requires, omega arith)

pub format_group-requires-3 : goal.format_group-requires-3
format_group-requires-3 c = (blocks-least c.args.cell c.requires, omega arith)

pub format_group-requires-4 : goal.format_group-requires-4
format_group-requires-4 c = (blocks-least c.args.cell c.requires, omega arith)
