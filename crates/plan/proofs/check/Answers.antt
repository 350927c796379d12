-- `plan::check` meets its contract: the walk's answer. Assumes nothing.
use mathlib.Core.Path.{sym, ap, ◌∙◌}
use Rattle.std.specs.declared.result.Result.TheVariants.{Err as refused}
use Rattle.plan.specs.Finding.{walk_answer}
use Rattle.plan.proofs.Verdict.{walked-refusal}
use Rattle.plan.proofs.check.Goals as goal

pub returns-in-Ok : goal.returns-in-Ok
returns-in-Ok c =
    ap walk_answer (sym c.in-Ok.is) ∙ ap walk_answer c.walk.ensures ∙ walked-refusal c.args.plan.now

pub returns-in-Err : goal.returns-in-Err
returns-in-Err c =
    ap refused c.from.ensures
    ∙ ap walk_answer (sym c.in-Err.is) ∙ ap walk_answer c.walk.ensures ∙ walked-refusal c.args.plan.now
