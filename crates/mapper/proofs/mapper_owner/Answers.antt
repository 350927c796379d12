-- `mapper::mapper_owner` meets its contract: the owner's number, or minus the refusal's. Assumes nothing.
use Rattle.mapper.proofs.Numbers.{owner-numbers, plus-back, minus-back}
use mathlib.Core.Path.{sym, ap, ◌∙◌}
use Rattle.layout.specs.Query.{owner_answer}
use Rattle.plan.specs.Answers.{given}
use Rattle.mapper.proofs.mapper_owner.Goals as goal

pub returns-in-Ok : goal.returns-in-Ok
returns-in-Ok c = let a = c.args in
    plus-back _ _ c.plus.result c.plus.type_inv c.plus.ensures
    (sym (owner-numbers a.plan.now a.s a.k a.port _ c.owner_query.ensures) ∙ ap owner_answer c.in-Ok.is
    ∙ ap given (sym (c.from-in-Ok.ensures ∙ c.from.ensures)))

pub returns-in-Err : goal.returns-in-Err
returns-in-Err c = let a = c.args in
    minus-back _ _ c.minus.result c.minus.type_inv c.minus.ensures
    (sym (owner-numbers a.plan.now a.s a.k a.port _ c.owner_query.ensures) ∙ ap owner_answer c.in-Err.is)
