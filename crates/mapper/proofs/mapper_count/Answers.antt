-- `mapper::mapper_count` meets its contract: a count is small. Assumes nothing.
use Rattle.mapper.proofs.Numbers.{number-back}
use Rattle.mapper.proofs.Bounds.{count_fits}
use Rattle.mapper.proofs.mapper_count.Goals as goal

pub number_in_c-requires : goal.number_in_c-requires
number_in_c-requires c = count_fits c.args.plan.now c.count.result c.args.kind c.count.ensures

pub returns : goal.returns
returns c = number-back c.number_in_c.result c.number_in_c.type_inv c.count.result _ c.number_in_c.ensures c.count.ensures
