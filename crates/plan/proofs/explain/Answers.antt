-- `plan::explain` meets its contract: what the walk gives, in full. Assumes nothing.
use mathlib.Core.Path.{sym, ap, ◌∙◌}
use Rattle.std.specs.declared.result.Result.TheVariants.{Err as refused}
use Rattle.plan.specs.Finding.{explained_by, finding_of}
use Rattle.plan.proofs.explain.Goals as goal

pub returns-in-Ok : goal.returns-in-Ok
unfolding finding_of
returns-in-Ok c =
    let explained = explained_by c.args.plan.now in
    ap explained (sym c.in-Ok.is ∙ c.walk.ensures)

pub returns-in-Err : goal.returns-in-Err
unfolding finding_of
returns-in-Err c =
    let explained = explained_by c.args.plan.now in
    ap refused c.finding_at.ensures ∙ ap explained (sym c.in-Err.is ∙ c.walk.ensures)
