-- `counted::with_plan` meets its contract. Assumes nothing.
use mathlib.Core.Path.{sym, ◌∙◌}
use Rattle.std.proofs.Common.{rules}
use Rattle.counted.proofs.Ways.{plan-is, plan-refused}
use Rattle.counted.proofs.with_plan.Goals as goal

pub with_payload-requires : goal.with_payload-requires
with_payload-requires c = sym c.check.ensures ∙ c.in_ok-p.was

pub returns-in_err-p : goal.returns-in_err-p
returns-in_err-p c = rw (← plan-refused c.args.plan.now c.args.payload.now _ c.check.ensures c.in_err-p.was) (search rules)

pub returns : goal.returns
returns c = c.with_payload.ensures ∙ plan-is c.args.plan.now c.args.payload.now _ c.check.ensures c.in_ok-p.was
