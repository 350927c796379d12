-- Each size of a group has its own test of the subcarrier.
use native.Mathlib.Omega.{arith}
use Prim.Native.Nat.{◌/◌}
use Rattle.pdcch.proofs.Starts.{place-few, group-of-four, group-of-six, none_of_four, one-of-four, none-of-six, one-of-six}
use Rattle.pdcch.proofs.put_start.Goals as goal

pub returns-then-k-ne0 : goal.returns-then-k-ne0
returns-then-k-ne0 c =
    none_of_four c.args.cell c.args.k c.args.s c.args.n c.args.starts.now c.group_size.ensures c.if-group_size-eq4.true c.if-k-ne0.true

pub quad_place-requires : goal.quad_place-requires
quad_place-requires c = (
  c.requires.2,
  group-of-four c.args.cell c.requires.0 c.args.k c.args.s c.requires.1 c.group_size.ensures
      c.if-group_size-eq4.true,
  omega arith,
)

pub overflow_mul-starts : goal.overflow_mul-starts
overflow_mul-starts c =
    omega (
      arith,
      c.quad_place.ensures,
      place-few c.args.cell c.requires.0 c.args.s (c.args.k / 4) c.requires.2
          (group-of-four c.args.cell c.requires.0 c.args.k c.args.s c.requires.1 c.group_size.ensures c.if-group_size-eq4.true),
    )

pub overflow_add-starts : goal.overflow_add-starts
overflow_add-starts c =
    omega (
      arith,
      c.quad_place.ensures,
      place-few c.args.cell c.requires.0 c.args.s (c.args.k / 4) c.requires.2
          (group-of-four c.args.cell c.requires.0 c.args.k c.args.s c.requires.1 c.group_size.ensures c.if-group_size-eq4.true),
    )

pub overflow_cast-starts : goal.overflow_cast-starts
overflow_cast-starts c =
    omega (
      arith,
      c.quad_place.ensures,
      place-few c.args.cell c.requires.0 c.args.s (c.args.k / 4) c.requires.2
          (group-of-four c.args.cell c.requires.0 c.args.k c.args.s c.requires.1 c.group_size.ensures c.if-group_size-eq4.true),
    )

pub returns-then-group_size-eq4 : goal.returns-then-group_size-eq4
returns-then-group_size-eq4 c =
    one-of-four c.args.cell c.args.k c.args.s c.args.n c.args.starts.now c.group_size.ensures
    c.if-group_size-eq4.true c.if-k-ne0.false c.quad_place.ensures

pub returns-then-k-ne0-2 : goal.returns-then-k-ne0-2
returns-then-k-ne0-2 c =
    none-of-six c.args.cell c.args.k c.args.s c.args.n c.args.starts.now c.group_size.ensures c.if-group_size-eq4.false c.if-k-ne0-2.true

pub quad_place-requires-2 : goal.quad_place-requires-2
quad_place-requires-2 c =
    (c.requires.2, group-of-six c.args.cell c.requires.0 c.args.k c.args.s c.requires.1 c.group_size.ensures c.if-group_size-eq4.false, omega arith)

pub overflow_mul-starts-2 : goal.overflow_mul-starts-2
overflow_mul-starts-2 c =
    omega (
      arith,
      c.quad_place-2.ensures,
      place-few c.args.cell c.requires.0 c.args.s (c.args.k / 6) c.requires.2
          (group-of-six c.args.cell c.requires.0 c.args.k c.args.s c.requires.1 c.group_size.ensures c.if-group_size-eq4.false),
    )

pub overflow_cast-starts-2 : goal.overflow_cast-starts-2
overflow_cast-starts-2 c =
    omega (
      arith,
      c.quad_place-2.ensures,
      place-few c.args.cell c.requires.0 c.args.s (c.args.k / 6) c.requires.2
          (group-of-six c.args.cell c.requires.0 c.args.k c.args.s c.requires.1 c.group_size.ensures c.if-group_size-eq4.false),
    )

pub returns : goal.returns
returns c =
    one-of-six c.args.cell c.args.k c.args.s c.args.n c.args.starts.now c.group_size.ensures c.if-group_size-eq4.false
    c.if-k-ne0-2.false c.quad_place-2.ensures
