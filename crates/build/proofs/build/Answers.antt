-- `build::build` meets its contract: the plan's refusal, 10, 11, 12, or the grid. Assumes nothing.
use mathlib.Core.Path.{sym, ap, ◌∙◌}
use lib.ListN.{length}
use Rattle.plan.proofs.Refused.{refused-is}
use Rattle.subframe.proofs.Bytes.{grid-size}
use Rattle.build.proofs.Answers.{way-refused, way-grid, way-payload, way-spare, way-ready, way-built}
use Rattle.build.proofs.build.Goals as goal

pub returns-in_default : goal.returns-in_default
returns-in_default c =
    way-refused c.args.plan.now c.args.payload.now c.args.grid.now c.check-checked.ensures (refused-is c.in_default.in_default-own.keys2 c.refusal_in.ensures)

pub returns-then-grid-grid_length : goal.returns-then-grid-grid_length
returns-then-grid-grid_length c =
    way-grid c.args.plan.now c.args.payload.now c.args.grid.now _
    (sym c.check-checked.ensures ∙ c.in-Ok.is) _ c.grid_length.ensures c.if-grid-grid_length.true

pub payload_length-requires : goal.payload_length-requires
payload_length-requires c = (sym c.check-checked.ensures ∙ c.in-Ok.is)

pub returns-then-payload-payload_length : goal.returns-then-payload-payload_length
returns-then-payload-payload_length c =
    way-payload c.args.plan.now c.args.payload.now c.args.grid.now _ (sym c.check-checked.ensures ∙ c.in-Ok.is)
    (c.if-grid-grid_length.false ∙ c.grid_length.ensures) _ c.payload_length.ensures c.if-payload-payload_length.true

pub spare_clear-requires : goal.spare_clear-requires
spare_clear-requires c =
    ((sym c.check-checked.ensures ∙ c.in-Ok.is), (c.if-payload-payload_length.false ∙ c.payload_length.ensures))

pub returns-then-not-spare_clear : goal.returns-then-not-spare_clear
returns-then-not-spare_clear c =
    way-spare c.args.plan.now c.args.payload.now c.args.grid.now _
    (sym c.check-checked.ensures ∙ c.in-Ok.is) (c.if-grid-grid_length.false ∙ c.grid_length.ensures)
    (c.if-payload-payload_length.false ∙ c.payload_length.ensures) _ c.spare_clear.ensures c.if-not-spare_clear.true

pub fill-requires : goal.fill-requires
fill-requires c =
    way-ready c.args.plan.now c.args.payload.now c.args.grid.now _
    (sym c.check-checked.ensures ∙ c.in-Ok.is) (c.if-grid-grid_length.false ∙ c.grid_length.ensures)
    (c.if-payload-payload_length.false ∙ c.payload_length.ensures) _ c.spare_clear.ensures c.if-not-spare_clear.false

pub users_count-requires : goal.users_count-requires
users_count-requires c =
    (sym c.check-checked.ensures ∙ c.in-Ok.is)

pub shape_of-grid : goal.shape_of-grid
shape_of-grid c =
    ap length c.fill.ensures ∙ grid-size _ _ _ ∙ sym (c.if-grid-grid_length.false ∙ c.grid_length.ensures)

pub returns : goal.returns
returns c =
    way-built c.args.plan.now c.args.payload.now c.args.grid.now _ (sym c.check-checked.ensures ∙ c.in-Ok.is)
    (c.if-grid-grid_length.false ∙ c.grid_length.ensures) (c.if-payload-payload_length.false ∙ c.payload_length.ensures) _
    c.spare_clear.ensures c.if-not-spare_clear.false _ c.users_count.ensures _ c.fill.ensures
