-- `plan::finish` meets its contract: END, and nothing after it. Assumes nothing.
use borrow.Enum.Refused.{opened}
use mathlib.Core.Path.{sym, ◌∙◌}
use Rattle.plan.proofs.OneCommand.{end_more, end-last, end-late}
use Rattle.plan.proofs.finish.Goals as goal

pub returns-then-at-plan : goal.returns-then-at-plan
returns-then-at-plan c =
    end_more c.requires (sym c.command_at.ensures ∙ c.in-End.is) c.if-at-plan.true c.found.ensures

pub returns-else-at-plan : goal.returns-else-at-plan
returns-else-at-plan c =
    end-last c.requires (sym c.command_at.ensures ∙ c.in-End.is) c.if-at-plan.false

pub returns-in_default : goal.returns-in_default
returns-in_default c =
    end-late c.requires (sym c.command_at.ensures) (opened c.in_default.in_default-own.keys2) c.late_cause.ensures c.found-in_default.ensures
