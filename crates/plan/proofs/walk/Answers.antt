-- `plan::walk` meets its contract: CELL or CELLX is due. Assumes nothing.
use borrow.Enum.Refused.{opened}
use mathlib.Core.Path.{sym, ◌∙◌}
use Rattle.plan.proofs.Opening.{late-first, cell-first, cellx-first}
use Rattle.plan.proofs.walk.Goals as goal

pub returns-in-Cell : goal.returns-in-Cell
returns-in-Cell c =
    let w = c.args.plan.now in
    c.cell_then.ensures ∙ cell-first w _ (sym c.command_at.ensures ∙ c.in-Cell.is)

pub returns-in-Cellx : goal.returns-in-Cellx
returns-in-Cellx c =
    let w = c.args.plan.now in
    c.cell_then-in-Cellx.ensures ∙ cellx-first w _ (sym c.command_at.ensures ∙ c.in-Cellx.is)

pub returns-in_default : goal.returns-in_default
returns-in_default c =
    let w = c.args.plan.now in
    late-first w (sym c.command_at.ensures) (opened c.in_default.in_default-own.keys3) c.late_cause.ensures c.found.ensures
