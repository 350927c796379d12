-- What its elements tell, with their weight.
use native.Mathlib.Omega.{arith}
use Rattle.pdcch_compare.proofs.Whole.{elements-few, table-in, given-most, block_same, block-differs}
use Rattle.pdcch_compare.proofs.compare.Goals as goal

pub compare_given-requires : goal.compare_given-requires
compare_given-requires c = (table-in c.requires, elements-few c.requires)

pub returns-in_err-given : goal.returns-in_err-given
returns-in_err-given c = rw c.from_residual.ensures (block-differs c.requires c.unit_byte_on.ensures c.of-f.ensures c.in_err-given.ensures)

pub overflow_mul-given : goal.overflow_mul-given
overflow_mul-given c = omega (arith, given-most c.requires c.unit_byte_on.ensures c.of-f.ensures c.in_ok-given.ensures)

pub weight_of-requires : goal.weight_of-requires
weight_of-requires c = omega (arith, given-most c.requires c.unit_byte_on.ensures c.of-f.ensures c.in_ok-given.ensures)

pub returns : goal.returns
returns c = block_same c.requires c.unit_byte_on.ensures c.of-f.ensures c.in_ok-given.ensures c.weight_of.result c.weight_of.ensures
