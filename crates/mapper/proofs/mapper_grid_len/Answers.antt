-- `mapper::mapper_grid_len` meets its contract: a grid's length is small. Assumes nothing.
use Rattle.mapper.proofs.Numbers.{number-back}
use Rattle.mapper.proofs.Bounds.{grid-fits}
use Rattle.mapper.proofs.mapper_grid_len.Goals as goal

pub number_in_c-requires : goal.number_in_c-requires
number_in_c-requires c = grid-fits c.args.plan.now c.grid_length.result c.grid_length.ensures

pub returns : goal.returns
returns c = number-back c.number_in_c.result c.number_in_c.type_inv c.grid_length.result _ c.number_in_c.ensures c.grid_length.ensures
