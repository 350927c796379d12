-- `mapper::number_in_c` meets its contract: the number, or minus the refusal's. Assumes nothing.
use Rattle.plan.specs.Check.{number_answer}
use Rattle.mapper.proofs.Numbers.{plus-back, minus-back, small_is}
use mathlib.Core.Path.{ap}
use Rattle.mapper.proofs.number_in_c.Goals as goal

pub plus-requires : goal.plus-requires
plus-requires c = small_is c.args.n _ c.in-Ok.is c.requires

pub returns-in-Ok : goal.returns-in-Ok
returns-in-Ok c = plus-back _ (number_answer c.args.n) c.plus.result c.plus.type_inv c.plus.ensures (ap number_answer c.in-Ok.is)

pub returns-in-Err : goal.returns-in-Err
returns-in-Err c = minus-back _ (number_answer c.args.n) c.minus.result c.minus.type_inv c.minus.ensures (ap number_answer c.in-Err.is)
