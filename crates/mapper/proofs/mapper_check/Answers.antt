-- `mapper::mapper_check` meets its contract: 0, or minus the refusal's number. Assumes nothing.
use Rattle.mapper.proofs.Numbers.{plus-is, minus-back, check-numbers}
use mathlib.Core.Path.{sym, ap, ◌∙◌}
use Rattle.mapper.specs.Calls.{checked_answer}
use Rattle.mapper.proofs.mapper_check.Goals as goal

pub returns-in-Ok : goal.returns-in-Ok
returns-in-Ok c = plus-is 0 _ (sym (check-numbers c.args.plan.now _ c.check.ensures) ∙ ap checked_answer c.in-Ok.is)

pub returns-in-Err : goal.returns-in-Err
returns-in-Err c = minus-back _ _ c.minus.result c.minus.type_inv c.minus.ensures
    (sym (check-numbers c.args.plan.now _ c.check.ensures) ∙ ap checked_answer c.in-Err.is)
