-- `plan::finding_at` meets its contract: the refusal of the stop's cause, and the earlier command. Assumes nothing.
use mathlib.Core.Path.{ap, ap₂, ◌∙◌}
use Rattle.std.specs.declared.option.Option.{Option}
use Rattle.plan.specs.Finding.{earlier_of}
use Rattle.plan.specs.declared.Refusal.{Refusal}
use Rattle.plan.specs.declared.Finding.{Finding}
use Rattle.plan.specs.declared.Numbered.{Numbered}
use Rattle.plan.proofs.finding_at.Goals as goal

pub returns : goal.returns
returns c =
    let a = c.args in
    let s = a.s in
    let make : Refusal → Option Numbered → Finding = λ r e. record { refusal = r; command = s.command; offset = s.offset; cause = s.cause; earlier = e } in
    ap₂ make c.from.ensures
    (c.earlier_of.ensures ∙ ap (earlier_of a.plan.now s.command s.offset) c.shared_by.ensures)
