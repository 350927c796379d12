-- `data_compare::places_of` meets its contract. Assumes nothing.
use native.Mathlib.Omega.{arith}
use Rattle.walk.proofs.Singles.{holes-total}
use Rattle.data_compare.proofs.places_of.Goals as goal

pub overflow_mul-result : goal.overflow_mul-result
overflow_mul-result c = omega (arith, holes-total c.args.run c.holes_of-h.ensures c.requires.1)

pub returns : goal.returns
returns c = (holes-total c.args.run c.holes_of-h.ensures c.requires.1).0
