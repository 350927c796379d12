-- `plan::command_at` meets its contract: the table of commands, one byte after the other. Assumes nothing.
use native.Mathlib.Omega.{arith}
use Rattle.plan.proofs.Reading.{gone, cut, read_cell, read-cellx, read-frame, read-hi, read-user, read-end, unknown}
use Rattle.plan.proofs.command_at.Goals as goal

pub returns-then-plan-at : goal.returns-then-plan-at
returns-then-plan-at c = gone c.args.plan.now c.args.at c.if-plan-at.true

pub returns-then-plan-at-2 : goal.returns-then-plan-at-2
returns-then-plan-at-2 c =
    cut c.args.plan.now c.args.at _ _ c.byte_at-b.ensures c.size_of.ensures c.if-plan-at-2.true

pub returns-in-16 : goal.returns-in-16
returns-in-16 c =
    read_cell c.args.plan.now c.args.at _ _ c.byte_at-b.ensures c.size_of.ensures c.if-plan-at-2.false c.in-16.is _ c.cell_at.ensures

pub returns-in-18 : goal.returns-in-18
returns-in-18 c =
    read-cellx c.args.plan.now c.args.at _ _ c.byte_at-b.ensures c.size_of.ensures c.if-plan-at-2.false c.in-18.is _ c.cellx_at.ensures

pub returns-in-17 : goal.returns-in-17
returns-in-17 c =
    read-frame c.args.plan.now c.args.at _ _ c.byte_at-b.ensures c.size_of.ensures c.if-plan-at-2.false c.in-17.is _ c.frame_at.ensures

pub returns-in-32 : goal.returns-in-32
returns-in-32 c =
    read-hi c.args.plan.now c.args.at _ _ c.byte_at-b.ensures c.size_of.ensures c.if-plan-at-2.false c.in-32.is _ c.hi_at.ensures

pub returns-in-48 : goal.returns-in-48
returns-in-48 c =
    read-user c.args.plan.now c.args.at _ _ c.byte_at-b.ensures c.size_of.ensures c.if-plan-at-2.false c.in-48.is _ c.user_at.ensures

pub returns-in-0 : goal.returns-in-0
returns-in-0 c =
    read-end c.args.plan.now c.args.at _ _ c.byte_at-b.ensures c.size_of.ensures c.if-plan-at-2.false c.in-0.is

pub returns-in_default : goal.returns-in_default
returns-in_default c =
    unknown c.args.plan.now c.args.at _ _ c.byte_at-b.ensures c.size_of.ensures c.if-plan-at-2.false (omega arith) (omega arith) (omega arith) (omega arith) (omega arith) (omega arith)
