-- `mapper::count` meets its contract: by the plan check. Assumes nothing.
use Rattle.std.proofs.Common.{rules}
use Rattle.mapper.proofs.Numbers.{number_is, number-refused}
use Rattle.mapper.specs.Calls.{kind_count_of, kind_elements}
use mathlib.Core.Path.{sym, ◌∙◌}
use Rattle.mapper.proofs.count.Goals as goal

pub count_of-requires : goal.count_of-requires
count_of-requires c = sym c.check.ensures ∙ c.in_ok-p.was

pub returns-in_err-p : goal.returns-in_err-p
unfolding kind_count_of
returns-in_err-p c = rw (← number-refused c.args.plan.now _ c.check.ensures _ c.in_err-p.was (kind_elements c.args.plan.now c.args.kind)) (search rules)

pub returns : goal.returns
unfolding kind_count_of
returns c = number_is c.args.plan.now _ c.check.ensures _ c.in_ok-p.was (kind_elements c.args.plan.now c.args.kind) _ c.count_of.ensures
