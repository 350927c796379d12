-- `data_compare::Starts::of` meets its contract. Assumes nothing.
use native.Mathlib.Omega.{arith}
use Rattle.walk.proofs.Addresses.{offsets-small}
use Rattle.data_compare.proofs.Pairs.{starting}
use Rattle.data_compare.proofs.Starts.of.Goals as goal

pub overflow_add-result : goal.overflow_add-result
overflow_add-result c = omega (arith, offsets-small c.requires.inside c.port_offsets-p.ensures)

pub overflow_mul-result : goal.overflow_mul-result
overflow_mul-result c = omega (arith, offsets-small c.requires.inside c.port_offsets-p.ensures)

pub overflow_add-result-2 : goal.overflow_add-result-2
overflow_add-result-2 c = omega (arith, offsets-small c.requires.inside c.port_offsets-p.ensures)

pub overflow_add-result-3 : goal.overflow_add-result-3
overflow_add-result-3 c = omega (arith, offsets-small c.requires.inside c.port_offsets-p.ensures)

pub overflow_mul-result-2 : goal.overflow_mul-result-2
overflow_mul-result-2 c = omega (arith, offsets-small c.requires.inside c.port_offsets-p.ensures)

pub overflow_mul-result-3 : goal.overflow_mul-result-3
overflow_mul-result-3 c = omega (arith, offsets-small c.requires.inside c.port_offsets-p.ensures)

pub returns : goal.returns
returns c = starting c.args.ports c.args.places c.args.j c.args.start c.args.step c.port_offsets-p.ensures
