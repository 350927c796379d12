-- `mapper::mapper_build` meets its contract: the count of user elements is small. Assumes nothing.
use Rattle.plan.specs.Check.{number_answer}
use Rattle.mapper.proofs.Numbers.{plus-back, minus-back}
use Rattle.mapper.proofs.Bounds.{built-fits}
use mathlib.Core.Path.{sym, ap, ◌∙◌}
use native.Mathlib.Omega.{arith}
use Rattle.mapper.proofs.mapper_build.Goals as goal

pub plus-requires : goal.plus-requires
plus-requires c =
    omega (arith, built-fits c.args.plan.now c.args.payload.now c.args.grid.now _ c.build.ensures.0 _ c.in-Ok.is)

pub returns-in-Ok : goal.returns-in-Ok
returns-in-Ok c =
    (plus-back _ _ c.plus.result c.plus.type_inv c.plus.ensures (sym c.build.ensures.0 ∙ ap number_answer c.in-Ok.is), c.build.ensures.1)

pub returns-in-Err : goal.returns-in-Err
returns-in-Err c =
    (minus-back _ _ c.minus.result c.minus.type_inv c.minus.ensures (sym c.build.ensures.0 ∙ ap number_answer c.in-Err.is), c.build.ensures.1)
