-- The products fit, and the sentence is the definition.
use native.Mathlib.Omega.{arith}
use Rattle.places.proofs.Ways.{number_in}
use Rattle.layout.proofs.GroupShape.{quad-low, quad-product}
use Rattle.places.proofs.unit_number.Goals as goal

pub groups_left-h-requires : goal.groups_left-h-requires
groups_left-h-requires c = (c.requires.0, omega (arith, c.quad_symbol-s.ensures, quad-low c.args.cell c.args.i, c.requires.2))

pub start_number-requires : goal.start_number-requires
start_number-requires c =
    (c.requires.0, omega (arith, c.quad_symbol-s.ensures, quad-low c.args.cell c.args.i, c.requires.2))

pub overflow_mul-result : goal.overflow_mul-result
overflow_mul-result c = omega (arith, quad-product c.args.i c.groups_left-h.result c.requires.2 c.groups_left-h.ensures.2)

pub overflow_add-result-2 : goal.overflow_add-result-2
overflow_add-result-2 c =
    omega (arith, quad-product c.args.i c.groups_left-h.result c.requires.2 c.groups_left-h.ensures.2, c.start_number.ensures.1)

pub returns : goal.returns
returns c =
    number_in c.args.cell c.args.m c.args.i c.quad_symbol-s.ensures c.groups_left-h.ensures.0
    c.start_number.ensures.0 c.requires.0 (omega arith)
