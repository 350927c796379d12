-- `mapper::mapper_payload_len` meets its contract: a payload's length is small. Assumes nothing.
use Rattle.mapper.proofs.Numbers.{number-back}
use Rattle.mapper.proofs.Bounds.{payload-fits}
use native.Mathlib.Omega.{arith}
use Rattle.mapper.proofs.mapper_payload_len.Goals as goal

pub number_in_c-requires : goal.number_in_c-requires
number_in_c-requires c = payload-fits c.args.plan.now c.payload_length.result (omega arith) c.payload_length.ensures

pub returns : goal.returns
returns c = number-back c.number_in_c.result c.number_in_c.type_inv c.payload_length.result _ c.number_in_c.ensures c.payload_length.ensures
