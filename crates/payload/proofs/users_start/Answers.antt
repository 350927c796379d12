-- `payload::users_start` meets its contract. Assumes nothing.
use native.Mathlib.Omega.{arith}
use Rattle.payload.proofs.Lengths.{start_is}
use Rattle.payload.proofs.users_start.Goals as goal

pub overflow_add-result : goal.overflow_add-result
overflow_add-result c = omega arith

pub returns : goal.returns
returns c = start_is c.args.p _ c.pbch_bits.ensures _ _ c.section_bytes.ensures c.section_bytes-2.ensures
