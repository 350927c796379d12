-- `pdcch_read::read_entry` meets its contract. Assumes nothing.
use native.Mathlib.Omega.{arith}
use Rattle.pdcch_read.proofs.Bytes.{entry-places, entry-small, entry-fits, entry_read}
use Rattle.pdcch_read.proofs.read_entry.Goals as goal

pub port_offsets-p-requires : goal.port_offsets-p-requires
port_offsets-p-requires c = entry-places c.requires.0 c.requires.1

pub overflow_add-p : goal.overflow_add-p
overflow_add-p c =
    omega (arith, entry-small c.requires.0 c.requires.1 c.gap_of-gap.ensures c.port_offsets-p.ensures)

pub overflow_mul-p : goal.overflow_mul-p
overflow_mul-p c =
    omega (arith, entry-small c.requires.0 c.requires.1 c.gap_of-gap.ensures c.port_offsets-p.ensures)

pub pair_at-first-requires : goal.pair_at-first-requires
pair_at-first-requires c =
    (entry-fits c.requires.0 c.requires.1 c.gap_of-gap.ensures c.port_offsets-p.ensures).0

pub overflow_add-start : goal.overflow_add-start
overflow_add-start c =
    omega (arith, entry-small c.requires.0 c.requires.1 c.gap_of-gap.ensures c.port_offsets-p.ensures)

pub overflow_add-p-2 : goal.overflow_add-p-2
overflow_add-p-2 c =
    omega (arith, entry-small c.requires.0 c.requires.1 c.gap_of-gap.ensures c.port_offsets-p.ensures)

pub overflow_mul-p-2 : goal.overflow_mul-p-2
overflow_mul-p-2 c =
    omega (arith, entry-small c.requires.0 c.requires.1 c.gap_of-gap.ensures c.port_offsets-p.ensures)

pub pair_at-second-requires : goal.pair_at-second-requires
pair_at-second-requires c =
    (entry-fits c.requires.0 c.requires.1 c.gap_of-gap.ensures c.port_offsets-p.ensures).1

pub returns : goal.returns
returns c =
    entry_read c.requires.0 c.requires.1 c.gap_of-gap.ensures c.port_offsets-p.ensures c.pair_at-first.ensures c.pair_at-second.ensures c.four.ensures.0 c.four.ensures.1
