-- `plan::after_cell` meets its contract: FRAME is due at position `at`. Assumes nothing.
use borrow.Enum.Refused.{opened}
use mathlib.Core.Path.{sym, ◌∙◌}
use native.Mathlib.Omega.{arith}
use Rattle.plan.proofs.Opening.{late-second, frame-room, frame_refused, frame_step}
use Rattle.plan.proofs.after_cell.Goals as goal

pub overflow_add-at : goal.overflow_add-at
overflow_add-at c =
    omega (arith, frame-room c.args.plan.now c.args.c c.args.at _ (sym c.command_at.ensures ∙ c.in-Frame.is))

pub body-requires : goal.body-requires
body-requires c =
    (frame-room c.args.plan.now c.args.c c.args.at _ (sym c.command_at.ensures ∙ c.in-Frame.is), c.requires)

pub returns-in-Ok : goal.returns-in-Ok
returns-in-Ok c =
    let a = c.args in
    let e = sym c.command_at.ensures ∙ c.in-Frame.is in
    c.body.ensures ∙ frame_step a.plan.now a.c a.at _ e c.frame_cause.ensures c.in-Ok.is

pub returns-in-Err : goal.returns-in-Err
returns-in-Err c =
    let a = c.args in
    let e = sym c.command_at.ensures ∙ c.in-Frame.is in
    frame_refused a.plan.now a.c a.at _ e c.frame_cause.ensures c.in-Err.is c.found.ensures

pub returns-in_default : goal.returns-in_default
returns-in_default c =
    let a = c.args in
    late-second a.plan.now a.c a.at (sym c.command_at.ensures) (opened c.in_default.in_default-own.keys2) c.late_cause.ensures c.found-in_default.ensures
