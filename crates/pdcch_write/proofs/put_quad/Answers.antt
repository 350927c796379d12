-- `pdcch_write::put_quad` meets its contract. Assumes nothing.
use native.Mathlib.Omega.{arith}
use Rattle.pdcch_write.proofs.Pairs.{single-in, offsets-few, round-in, quad-round, gap-one, quad-single}
use Rattle.pdcch_write.proofs.put_quad.Goals as goal

pub put_single-requires : goal.put_single-requires
put_single-requires c =
    single-in c.requires

pub returns-then-ports-eq1 : goal.returns-then-ports-eq1
returns-then-ports-eq1 c =
    quad-single c.if-ports-eq1.true c.requires c.put_single.ensures

pub overflow_add-at : goal.overflow_add-at
overflow_add-at c =
    omega (arith, offsets-few c.requires c.port_offsets-o.ensures)

pub overflow_mul-at : goal.overflow_mul-at
overflow_mul-at c =
    omega (arith, offsets-few c.requires c.port_offsets-o.ensures)

pub overflow_add-next : goal.overflow_add-next
overflow_add-next c =
    omega (arith, offsets-few c.requires c.port_offsets-o.ensures)

pub overflow_mul-next : goal.overflow_mul-next
overflow_mul-next c =
    omega (arith, offsets-few c.requires c.port_offsets-o.ensures)

pub overflow_mul-across : goal.overflow_mul-across
overflow_mul-across c =
    omega (arith, offsets-few c.requires c.port_offsets-o.ensures)

pub round-requires : goal.round-requires
round-requires c =
    (omega arith, round-in c.requires c.port_offsets-o.ensures c.if-x-eq2.true)

pub returns-then-x-eq2 : goal.returns-then-x-eq2
returns-then-x-eq2 c =
    quad-round c.requires c.port_offsets-o.ensures c.if-ports-eq1.false c.if-x-eq2.true c.round.ensures

pub round-requires-2 : goal.round-requires-2
round-requires-2 c =
    (omega arith, round-in c.requires c.port_offsets-o.ensures (gap-one c.requires c.if-x-eq2.false))

pub returns : goal.returns
returns c =
    quad-round c.requires c.port_offsets-o.ensures c.if-ports-eq1.false (gap-one c.requires c.if-x-eq2.false) c.round-2.ensures
