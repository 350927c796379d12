-- `two_builds::build_both` meets its contract: the plan's refusal, 10, 11, 12 of either, or both grids. Assumes nothing.
use mathlib.Core.Path.{sym, ap, ◌∙◌}
use lib.ListN.{length}
use Rattle.plan.proofs.Refused.{refused-is}
use Rattle.subframe.proofs.Bytes.{grid-size}
use Rattle.two_builds.proofs.Both.{way-refused, way-first-grid, way-second-grid, way-first-payload, way-second-payload, way-first-spare, way-second-spare, way-first-ready, way-second-ready, way-both}
use Rattle.two_builds.proofs.build_both.Goals as goal

pub returns-in_default : goal.returns-in_default
returns-in_default c =
    way-refused c.args.plan.now c.args.a.now c.args.b.now c.args.grid_a.now c.args.grid_b.now c.check-checked.ensures (refused-is c.in_default.in_default-own.keys2 c.refusal_in.ensures)

pub returns-then-grid_a-room : goal.returns-then-grid_a-room
returns-then-grid_a-room c =
    way-first-grid c.args.plan.now c.args.a.now c.args.b.now c.args.grid_a.now c.args.grid_b.now _
    (sym c.check-checked.ensures ∙ c.in-Ok.is) _ c.grid_length-room.ensures c.if-grid_a-room.true

pub returns-then-grid_b-room : goal.returns-then-grid_b-room
returns-then-grid_b-room c =
    way-second-grid c.args.plan.now c.args.a.now c.args.b.now c.args.grid_a.now c.args.grid_b.now _
    (sym c.check-checked.ensures ∙ c.in-Ok.is) _ c.grid_length-room.ensures c.if-grid_a-room.false c.if-grid_b-room.true

pub payload_length-size-requires : goal.payload_length-size-requires
payload_length-size-requires c = (sym c.check-checked.ensures ∙ c.in-Ok.is)

pub returns-then-a-size : goal.returns-then-a-size
returns-then-a-size c =
    way-first-payload c.args.plan.now c.args.a.now c.args.b.now c.args.grid_a.now c.args.grid_b.now _
    (sym c.check-checked.ensures ∙ c.in-Ok.is) _ c.grid_length-room.ensures c.if-grid_a-room.false c.if-grid_b-room.false _
    c.payload_length-size.ensures c.if-a-size.true

pub returns-then-b-size : goal.returns-then-b-size
returns-then-b-size c =
    way-second-payload c.args.plan.now c.args.a.now c.args.b.now c.args.grid_a.now c.args.grid_b.now _
    (sym c.check-checked.ensures ∙ c.in-Ok.is) _ c.grid_length-room.ensures c.if-grid_a-room.false c.if-grid_b-room.false _
    c.payload_length-size.ensures c.if-a-size.false c.if-b-size.true

pub spare_clear-requires : goal.spare_clear-requires
spare_clear-requires c =
    ((sym c.check-checked.ensures ∙ c.in-Ok.is), c.if-a-size.false ∙ c.payload_length-size.ensures)

pub returns-then-not-spare_clear : goal.returns-then-not-spare_clear
returns-then-not-spare_clear c =
    way-first-spare c.args.plan.now c.args.a.now c.args.b.now c.args.grid_a.now c.args.grid_b.now _
    (sym c.check-checked.ensures ∙ c.in-Ok.is) _ c.grid_length-room.ensures c.if-grid_a-room.false c.if-grid_b-room.false _
    c.payload_length-size.ensures c.if-a-size.false c.if-b-size.false _ c.spare_clear.ensures c.if-not-spare_clear.true

pub spare_clear-requires-2 : goal.spare_clear-requires-2
spare_clear-requires-2 c =
    ((sym c.check-checked.ensures ∙ c.in-Ok.is), c.if-b-size.false ∙ c.payload_length-size.ensures)

pub returns-then-not-spare_clear-2 : goal.returns-then-not-spare_clear-2
returns-then-not-spare_clear-2 c =
    way-second-spare c.args.plan.now c.args.a.now c.args.b.now c.args.grid_a.now c.args.grid_b.now _
    (sym c.check-checked.ensures ∙ c.in-Ok.is) _ c.grid_length-room.ensures c.if-grid_a-room.false c.if-grid_b-room.false _
    c.payload_length-size.ensures c.if-a-size.false c.if-b-size.false _ c.spare_clear.ensures c.if-not-spare_clear.false _
    c.spare_clear-2.ensures c.if-not-spare_clear-2.true

pub fill-requires : goal.fill-requires
fill-requires c =
    way-first-ready c.args.plan.now c.args.a.now c.args.b.now c.args.grid_a.now c.args.grid_b.now _
    (sym c.check-checked.ensures ∙ c.in-Ok.is) _ c.grid_length-room.ensures c.if-grid_a-room.false c.if-grid_b-room.false _
    c.payload_length-size.ensures c.if-a-size.false c.if-b-size.false _ c.spare_clear.ensures c.if-not-spare_clear.false _
    c.spare_clear-2.ensures c.if-not-spare_clear-2.false

pub fill-requires-2 : goal.fill-requires-2
fill-requires-2 c =
    way-second-ready c.args.plan.now c.args.a.now c.args.b.now c.args.grid_a.now c.args.grid_b.now _
    (sym c.check-checked.ensures ∙ c.in-Ok.is) _ c.grid_length-room.ensures c.if-grid_a-room.false c.if-grid_b-room.false _
    c.payload_length-size.ensures c.if-a-size.false c.if-b-size.false _ c.spare_clear.ensures c.if-not-spare_clear.false _
    c.spare_clear-2.ensures c.if-not-spare_clear-2.false

pub users_count-requires : goal.users_count-requires
users_count-requires c = sym c.check-checked.ensures ∙ c.in-Ok.is

pub shape_of-grid_a : goal.shape_of-grid_a
shape_of-grid_a c =
    ap length c.fill.ensures ∙ grid-size _ _ _ ∙ sym (c.if-grid_a-room.false ∙ c.grid_length-room.ensures)

pub shape_of-grid_b : goal.shape_of-grid_b
shape_of-grid_b c =
    ap length c.fill-2.ensures ∙ grid-size _ _ _ ∙ sym (c.if-grid_b-room.false ∙ c.grid_length-room.ensures)

pub returns : goal.returns
returns c =
    way-both c.args.plan.now c.args.a.now c.args.b.now c.args.grid_a.now c.args.grid_b.now _
    (sym c.check-checked.ensures ∙ c.in-Ok.is) _ c.grid_length-room.ensures c.if-grid_a-room.false c.if-grid_b-room.false _
    c.payload_length-size.ensures c.if-a-size.false c.if-b-size.false _ c.spare_clear.ensures c.if-not-spare_clear.false _
    c.spare_clear-2.ensures c.if-not-spare_clear-2.false _ c.users_count.ensures _ c.fill.ensures _ c.fill-2.ensures
