-- `pdcch_compare::compare_quad` meets its contract: on one port by its places alone. Assumes nothing.
use mathlib.Core.Path.{refl}
use native.Mathlib.Omega.{arith}
use Rattle.pdcch_compare.proofs.Pairs.{quad-fits, one-port-seen, pairs-in}
use Rattle.pdcch_compare.proofs.compare_quad.Goals as goal

pub overflow_mul-start : goal.overflow_mul-start
overflow_mul-start c = omega (arith, quad-fits c.requires)

pub pair_at-requires : goal.pair_at-requires
pair_at-requires c = (quad-fits c.requires).0

pub overflow_add-start : goal.overflow_add-start
overflow_add-start c = omega (arith, quad-fits c.requires)

pub overflow_mul-start-then-ports-eq1 : goal.overflow_mul-start-then-ports-eq1
overflow_mul-start-then-ports-eq1 c = omega (arith, quad-fits c.requires)

pub pair_at-requires-then-ports-eq1 : goal.pair_at-requires-then-ports-eq1
pair_at-requires-then-ports-eq1 c = (quad-fits c.requires).1

pub returns-then-ports-eq1 : goal.returns-then-ports-eq1
returns-then-ports-eq1 c =
    one-port-seen c.if-ports-eq1.true c.pair_at.ensures c.pair_at-then-ports-eq1.ensures c.wrong-one.ensures c.wrong.ensures refl

pub two_pairs-requires : goal.two_pairs-requires
two_pairs-requires c = pairs-in c.requires c.if-ports-eq1.false
