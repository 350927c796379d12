-- `counted::gridcount` meets its contract. Assumes nothing.
use mathlib.Core.Path.{◌∙◌}
use native.Mathlib.Omega.{arith}
use Rattle.counted.proofs.Ways.{cut_off, end-least, end-most, framed}
use Rattle.counted.proofs.gridcount.Goals as goal

pub returns-in_default : goal.returns-in_default
returns-in_default c = cut_off c.args.input.now c.plan_end.ensures c.in_default.is

pub returns : goal.returns
returns c = c.with_plan.ensures ∙ framed c.args.input.now _ c.plan_end.ensures c.in-Some.is
