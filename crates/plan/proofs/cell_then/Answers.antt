-- `plan::cell_then` meets its contract: the cell's fields, then what follows it. Assumes nothing.
use mathlib.Core.Path.{sym, ◌∙◌}
use Rattle.plan.proofs.CauseLaws.{cell_in}
use Rattle.plan.proofs.Opening.{cell-refused, cell-step}
use Rattle.plan.proofs.cell_then.Goals as goal

pub after_cell-requires : goal.after_cell-requires
after_cell-requires c = cell_in _ (sym c.in-Ok.is ∙ c.cell_cause.ensures)

pub returns-in-Ok : goal.returns-in-Ok
returns-in-Ok c =
    let a = c.args in
    c.after_cell.ensures ∙ cell-step a.plan.now a.c a.at c.cell_cause.ensures c.in-Ok.is

pub returns-in-Err : goal.returns-in-Err
returns-in-Err c =
    let a = c.args in
    cell-refused a.plan.now a.c a.at c.cell_cause.ensures c.in-Err.is c.found.ensures
