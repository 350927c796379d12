-- `legend::owner_row` meets its contract: by the plan check's answer. Assumes nothing.
use mathlib.Core.Path.{sym, ◌∙◌}
use Rattle.legend.proofs.Showing.{row-shown, row-left}
use Rattle.legend.proofs.owner_row.Goals as goal

pub fill-requires : goal.fill-requires
fill-requires c = (sym c.check.ensures ∙ c.in-Ok.is, c.requires)

pub returns-in-Ok : goal.returns-in-Ok
returns-in-Ok c =
    row-shown c.args.plan.now c.args.s c.args.first c.args.row.now _ (sym c.check.ensures ∙ c.in-Ok.is) _
    c.fill.ensures

pub returns-in_default : goal.returns-in_default
returns-in_default c =
    row-left c.args.plan.now c.args.s c.args.first c.args.row.now _ (sym c.check.ensures ∙ c.in_default.is)
