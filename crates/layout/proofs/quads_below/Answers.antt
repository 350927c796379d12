-- A quad of another symbol has none there; else as many as units around the ring.
use native.Mathlib.Omega.{arith}
use native.Mathlib.Nat.{mod-lt}
use Rattle.layout.proofs.GroupShape.{quad-product}
use Rattle.layout.proofs.Ways.{units-few}
use Rattle.layout.proofs.VacantWays.{below-elsewhere, quad-among, below-here}
use Rattle.layout.proofs.quads_below.Goals as goal

pub returns-then-quad_symbol-s : goal.returns-then-quad_symbol-s
returns-then-quad_symbol-s c =
    below-elsewhere c.args.cell c.args.s c.args.n c.args.i c.quad_symbol.ensures c.if-quad_symbol-s.true

pub groups_left-h-requires : goal.groups_left-h-requires
groups_left-h-requires c =
    (c.requires.0, quad-among c.args.cell c.args.s c.args.n c.args.i c.quad_symbol.ensures c.if-quad_symbol-s.false c.requires.3)

pub start_number-requires : goal.start_number-requires
start_number-requires c =
    (c.requires.0, quad-among c.args.cell c.args.s c.args.n c.args.i c.quad_symbol.ensures c.if-quad_symbol-s.false c.requires.3)

pub overflow_mul-from : goal.overflow_mul-from
overflow_mul-from c =
    omega (arith, quad-product c.args.i c.groups_left-h.result c.requires.3 c.groups_left-h.ensures.2)

pub overflow_add-from : goal.overflow_add-from
overflow_add-from c =
    omega (
      arith,
      mod-lt c.start_number.result c.groups_left-h.ensures.1,
      c.groups_left-h.ensures.2,
      quad-product c.args.i
          c.groups_left-h.result c.requires.3 c.groups_left-h.ensures.2,
    )

pub ring_below-requires : goal.ring_below-requires
ring_below-requires c = (
  omega (
    arith,
    mod-lt c.start_number.result c.groups_left-h.ensures.1,
    c.groups_left-h.ensures.2,
    quad-product
        c.args.i c.groups_left-h.result c.requires.3 c.groups_left-h.ensures.2,
  ),
  omega
      (arith, c.units.ensures, units-few c.args.cell (omega arith) (omega arith)),
  omega arith,
)

pub returns : goal.returns
returns c =
    below-here c.args.cell c.args.s c.args.n c.args.i c.quad_symbol.ensures c.if-quad_symbol-s.false
    c.groups_left-h.ensures.0 c.start_number.ensures.0 c.units.ensures _ c.ring_below.ensures
