-- `data_write::pair` meets its contract. Assumes nothing.
use native.Mathlib.Omega.{arith}
use Rattle.data_write.proofs.Source.{from-table}
use Rattle.data_write.proofs.Filled.{one-takes, one-done}
use Rattle.walk.proofs.Addresses.{offsets-small, one-fits}
use Rattle.data_write.proofs.pair.Goals as goal

pub take-y-requires : goal.take-y-requires
take-y-requires c = one-takes c.requires.0 c.requires.1 c.port_offsets-p.ensures

pub overflow_add-p : goal.overflow_add-p
overflow_add-p c =
    omega (arith, offsets-small c.requires.0 c.port_offsets-p.ensures)

pub overflow_mul-p : goal.overflow_mul-p
overflow_mul-p c =
    omega (arith, offsets-small c.requires.0 c.port_offsets-p.ensures)

pub overflow_mul-p-2 : goal.overflow_mul-p-2
overflow_mul-p-2 c =
    omega (arith, offsets-small c.requires.0 c.port_offsets-p.ensures)

pub put_pair-requires : goal.put_pair-requires
put_pair-requires c =
    (omega arith, omega (arith, one-fits c.requires.0 c.port_offsets-p.ensures))

pub returns : goal.returns
returns c =
    one-done c.requires.0 c.requires.1 c.port_offsets-p.ensures c.take-y.ensures
    (from-table c.number-a.ensures.0 c.number-b.ensures.0 c.joint.ensures c.partners.ensures) c.put_pair.ensures
