-- `data_read::pair` meets its contract. Assumes nothing.
use native.Mathlib.Omega.{arith}
use Rattle.walk.proofs.Addresses.{offsets-small, one-fits}
use Rattle.data_read.proofs.Places.{one-gives, one_on}
use Rattle.data_read.proofs.pair.Goals as goal

pub overflow_add-p : goal.overflow_add-p
overflow_add-p c = omega (arith, offsets-small c.requires.0 c.port_offsets-p.ensures)

pub overflow_mul-p : goal.overflow_mul-p
overflow_mul-p c = omega (arith, offsets-small c.requires.0 c.port_offsets-p.ensures)

pub pair_at-x-requires : goal.pair_at-x-requires
pair_at-x-requires c = omega (arith, one-fits c.requires.0 c.port_offsets-p.ensures)

pub give-requires : goal.give-requires
give-requires c =
    one-gives c.requires.0 c.requires.1 c.port_offsets-p.ensures c.two_symbols.ensures.1

pub returns : goal.returns
returns c =
    one_on c.requires.0 c.requires.1 c.port_offsets-p.ensures c.pair_at-x.ensures c.two_symbols.ensures.0 c.give.ensures
