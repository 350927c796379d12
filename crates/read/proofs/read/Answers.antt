-- `read::read` meets its contract: the plan's refusal, 10, 11, 13, or the payload. Assumes nothing.
use mathlib.Core.Path.{sym, ◌∙◌}
use Rattle.plan.proofs.Refused.{refused-is}
use Rattle.read.proofs.Answers.{way-refused, way-grid, way-payload, way-given, way-none, way-readable, way-read}
use Rattle.read.proofs.read.Goals as goal

pub returns-in_default : goal.returns-in_default
returns-in_default c =
    way-refused c.args.plan.now c.args.grid.now c.args.payload.now c.check-checked.ensures (refused-is c.in_default.in_default-own.keys2 c.refusal_in.ensures)

pub returns-then-grid-grid_length : goal.returns-then-grid-grid_length
returns-then-grid-grid_length c =
    way-grid c.args.plan.now c.args.grid.now c.args.payload.now _ (sym c.check-checked.ensures ∙ c.in-Ok.is) _
    c.grid_length.ensures c.if-grid-grid_length.true

pub payload_length-requires : goal.payload_length-requires
payload_length-requires c = (sym c.check-checked.ensures ∙ c.in-Ok.is)

pub returns-then-payload-payload_length : goal.returns-then-payload-payload_length
returns-then-payload-payload_length c =
    way-payload c.args.plan.now c.args.grid.now c.args.payload.now _ (sym c.check-checked.ensures ∙ c.in-Ok.is)
    (c.if-grid-grid_length.false ∙ c.grid_length.ensures) _ c.payload_length.ensures c.if-payload-payload_length.true

pub has_payload-requires : goal.has_payload-requires
has_payload-requires c =
    way-given c.args.plan.now c.args.grid.now c.args.payload.now _ (sym c.check-checked.ensures ∙ c.in-Ok.is)
    (c.if-grid-grid_length.false ∙ c.grid_length.ensures)

pub returns-then-not-has_payload : goal.returns-then-not-has_payload
returns-then-not-has_payload c =
    way-none c.args.plan.now c.args.grid.now c.args.payload.now _ (sym c.check-checked.ensures ∙ c.in-Ok.is)
    (c.if-grid-grid_length.false ∙ c.grid_length.ensures) (c.if-payload-payload_length.false ∙ c.payload_length.ensures) _ c.has_payload.ensures
    c.if-not-has_payload.true

pub read_sections-requires : goal.read_sections-requires
read_sections-requires c =
    way-readable c.args.plan.now c.args.grid.now c.args.payload.now _ (sym c.check-checked.ensures ∙ c.in-Ok.is)
    (c.if-grid-grid_length.false ∙ c.grid_length.ensures) (c.if-payload-payload_length.false ∙ c.payload_length.ensures) _ c.has_payload.ensures
    c.if-not-has_payload.false

pub users_count-requires : goal.users_count-requires
users_count-requires c =
    (sym c.check-checked.ensures ∙ c.in-Ok.is)

pub returns : goal.returns
returns c =
    way-read c.args.plan.now c.args.grid.now c.args.payload.now _ (sym c.check-checked.ensures ∙ c.in-Ok.is)
    (c.if-grid-grid_length.false ∙ c.grid_length.ensures) (c.if-payload-payload_length.false ∙ c.payload_length.ensures) _ c.has_payload.ensures
    c.if-not-has_payload.false _ c.users_count.ensures _ c.read_sections.ensures
