-- The number and the groups of PCFICH below it are the group; in a later symbol the number is.
use Rattle.places.proofs.Ways.{unit-sum, unit-sum-later}
use Rattle.places.proofs.unit_group.Goals as goal

pub returns-then-quad_symbol-gt0 : goal.returns-then-quad_symbol-gt0
returns-then-quad_symbol-gt0 c =
    unit-sum-later c.args.cell c.args.m c.args.i c.requires.0 c.unit_number-n.ensures.0 c.quad_symbol.ensures
    c.if-quad_symbol-gt0.true

pub returns : goal.returns
returns c =
    unit-sum c.args.cell c.args.m c.args.i c.requires.0 c.unit_number-n.ensures.0 c.quad_symbol.ensures
    c.if-quad_symbol-gt0.false c.format_group-a.ensures c.format_group-b.ensures c.format_group-c.ensures
    c.format_group-d.ensures c.left_group.ensures
