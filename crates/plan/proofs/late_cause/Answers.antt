-- `plan::late_cause` meets its contract: END is missing, a command cannot be read, or is out of order. Assumes nothing.
use borrow.Enum.Refused.{opened}
use mathlib.Core.Path.{sym}
use Rattle.plan.proofs.CauseLaws.{late-gone, late-broken, late-order}
use Rattle.plan.proofs.late_cause.Goals as goal

pub returns-then-plan-at : goal.returns-then-plan-at
returns-then-plan-at c = late-gone c.args.plan.now c.args.at c.if-plan-at.true

pub returns-in-Broken : goal.returns-in-Broken
returns-in-Broken c =
    late-broken c.args.plan.now c.args.at c.if-plan-at.false (sym c.command_at.ensures) c.in-Broken.is c.broken_cause.ensures

pub returns-in_default : goal.returns-in_default
returns-in_default c =
    late-order c.args.plan.now c.args.at c.if-plan-at.false (sym c.command_at.ensures) (opened c.in_default.in_default-own.keys2)
