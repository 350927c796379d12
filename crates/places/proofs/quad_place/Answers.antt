-- The offset in the group is the j-th one kept.
use native.Mathlib.Omega.{arith}
use Rattle.places.proofs.Ways.{rows_few, groups-few, place-of-four, place-of-six}
use Rattle.places.proofs.quad_place.Goals as goal

pub overflow_mul-start : goal.overflow_mul-start
overflow_mul-start c = omega (arith, rows_few c.args.cell c.args.s c.carriers.ensures c.requires.0 (omega arith))

pub overflow_mul-result : goal.overflow_mul-result
overflow_mul-result c =
    omega (arith, groups-few c.args.cell c.args.s c.args.g c.requires.1 (omega arith))

pub overflow_add-result : goal.overflow_add-result
overflow_add-result c =
    omega (arith, groups-few c.args.cell c.args.s c.args.g c.requires.1 (omega arith))

pub overflow_add-result-then-group_size-eq4 : goal.overflow_add-result-then-group_size-eq4
overflow_add-result-then-group_size-eq4 c =
    omega (
      arith,
      rows_few c.args.cell c.args.s c.carriers.ensures c.requires.0 (omega arith),
      groups-few c.args.cell c.args.s
          c.args.g c.requires.1 (omega arith),
    )

pub returns-then-group_size-eq4 : goal.returns-then-group_size-eq4
returns-then-group_size-eq4 c =
    place-of-four c.args.cell c.args.s c.args.g c.args.j c.requires.1 c.requires.2 c.group_size.ensures
    c.carriers.ensures c.if-group_size-eq4.true

pub overflow_mul-result-2 : goal.overflow_mul-result-2
overflow_mul-result-2 c =
    omega (arith, groups-few c.args.cell c.args.s c.args.g c.requires.1 (omega arith))

pub overflow_add-result-4 : goal.overflow_add-result-4
overflow_add-result-4 c =
    omega (arith, groups-few c.args.cell c.args.s c.args.g c.requires.1 (omega arith), c.one_below.ensures.1)

pub overflow_add-result-5 : goal.overflow_add-result-5
overflow_add-result-5 c =
    omega (
      arith,
      rows_few c.args.cell c.args.s c.carriers.ensures c.requires.0 (omega arith),
      groups-few c.args.cell c.args.s
          c.args.g c.requires.1 (omega arith),
      c.one_below.ensures.1,
    )

pub returns : goal.returns
returns c =
    place-of-six c.args.cell c.args.s c.args.g c.args.j c.requires.1 c.requires.2 c.group_size.ensures
    c.carriers.ensures c.if-group_size-eq4.false c.one_below.ensures.0
