-- The plan check, the grid, and the owner, in turn.
use mathlib.Core.Path.{sym, ◌∙◌}
use Rattle.plan.proofs.Refused.{refused-is}
use Rattle.layout.proofs.Asked.{way-refused, way-place, way-owner, way-outside}
use Rattle.layout.proofs.owner_query.Goals as goal

pub returns-in_default : goal.returns-in_default
returns-in_default c =
    way-refused c.args.plan.now c.args.s c.args.k c.args.port c.check-checked.ensures (refused-is c.in_default.in_default-own.keys2 c.refusal_in.ensures)

pub owner_at-requires : goal.owner_at-requires
owner_at-requires c = (
  (sym c.check-checked.ensures ∙ c.in-Ok.is),
  way-place c.args.plan.now c.args.s c.args.k c.args.port _
      (sym c.check-checked.ensures ∙ c.in-Ok.is) _ c.in_grid.ensures c.if-in_grid.true,
)

pub returns-then-in_grid : goal.returns-then-in_grid
returns-then-in_grid c =
    way-owner c.args.plan.now c.args.s c.args.k c.args.port _ (sym c.check-checked.ensures ∙ c.in-Ok.is) _
    c.in_grid.ensures c.if-in_grid.true _ c.owner_at.ensures

pub returns-else-in_grid : goal.returns-else-in_grid
returns-else-in_grid c =
    way-outside c.args.plan.now c.args.s c.args.k c.args.port _ (sym c.check-checked.ensures ∙ c.in-Ok.is) _
    c.in_grid.ensures c.if-in_grid.false
