-- `mapper::mapper_read` meets its contract: the count of user elements is small. Assumes nothing.
use Rattle.plan.specs.Check.{number_answer}
use Rattle.mapper.proofs.Numbers.{reads_of, plus-back, minus-back}
use Rattle.mapper.proofs.Bounds.{read_fits}
use mathlib.Core.Path.{sym, ap, ◌∙◌}
use native.Mathlib.Omega.{arith}
use Rattle.mapper.proofs.mapper_read.Goals as goal

pub plus-requires : goal.plus-requires
plus-requires c = let a = c.args in
    omega (arith, read_fits a.plan.now a.payload.now a.grid.now _ c.read.ensures.2 _ c.in-Ok.is)

pub returns-in-Ok : goal.returns-in-Ok
returns-in-Ok c = let r = c.read.ensures in
    (plus-back _ _ c.plus.result c.plus.type_inv c.plus.ensures (sym r.0 ∙ ap number_answer c.in-Ok.is), r.1, reads_of r.0 r.2)

pub returns-in-Err : goal.returns-in-Err
returns-in-Err c = let r = c.read.ensures in
    (minus-back _ _ c.minus.result c.minus.type_inv c.minus.ensures (sym r.0 ∙ ap number_answer c.in-Err.is), r.1, reads_of r.0 r.2)
