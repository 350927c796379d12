-- `payload::payload_length` meets its contract. Assumes nothing.
use native.Mathlib.Omega.{arith}
use Rattle.payload.proofs.Lengths.{length-room, length_found}
use Rattle.payload.proofs.payload_length.Goals as goal

pub users_length-requires : goal.users_length-requires
users_length-requires c = c.requires

pub overflow_add-result : goal.overflow_add-result
overflow_add-result c = let a = c.args in
    omega (
      arith,
      length-room a.plan.now a.p c.requires c.users_start.result c.users_length.result c.users_start.ensures
          c.users_length.ensures,
    )

pub returns : goal.returns
returns c = let a = c.args in
    length_found a.plan.now a.p c.requires _ _ c.users_start.ensures c.users_length.ensures
