-- The products fit; a quad of another symbol, or the range of the units.
use native.Mathlib.Omega.{arith}
use Rattle.layout.proofs.GroupShape.{quad-product}
use Rattle.layout.proofs.Ways.{quad-elsewhere, quad-here, units-few}
use Rattle.layout.proofs.quad_in.Goals as goal

pub returns-then-quad_symbol-s : goal.returns-then-quad_symbol-s
returns-then-quad_symbol-s c =
    quad-elsewhere c.args.cell c.args.s c.args.d c.args.i c.quad_symbol.ensures c.if-quad_symbol-s.true

pub overflow_mul-a : goal.overflow_mul-a
overflow_mul-a c = omega (arith, quad-product c.args.i c.groups_left.result c.requires.2 c.groups_left.ensures.2)

pub overflow_add-a : goal.overflow_add-a
overflow_add-a c =
    omega (
      arith,
      quad-product c.args.i c.groups_left.result c.requires.2 c.groups_left.ensures.2,
      c.units.ensures,
      units-few
          c.args.cell (omega arith) (omega arith),
    )

pub returns : goal.returns
returns c =
    quad-here c.args.cell c.args.s c.args.d c.args.i c.quad_symbol.ensures c.if-quad_symbol-s.false
    c.groups_left.ensures.0 c.units.ensures _ c.within.ensures
