-- A later symbol's group is its own number; one of PCFICH's four groups, or the unit by the group's number.
use native.Mathlib.Omega.{arith}
use mathlib.Core.Path.{◌∙◌}
use Rattle.layout.proofs.Ways.{group-later, group-format, counted-le, group-unit}
use Rattle.layout.proofs.group_at.Goals as goal
use Rattle.layout.proofs.group_at.Goals.{then-t-a-via-then-t-a, then-t-a-via-else-t-a+then-t-b, then-t-a-via-else-t-a+else-t-b+then-t-c, then-t-a-via-else-t-a+else-t-b+else-t-c+then-t-d}

pub returns-then-s-gt0 : goal.returns-then-s-gt0
returns-then-s-gt0 c = group-later c.args.cell c.args.s c.args.t c.if-s-gt0.true _ c.number_at.ensures

pub returns-then-t-a : goal.returns-then-t-a
returns-then-t-a c =
    elim c.then-t-a.branch [
      | then-t-a-via-then-t-a w ↦ group-format c.args.cell c.args.s c.args.t (omega arith) 0 (omega arith) (w.if-t-a.true ∙ c.format_group-a.ensures)
      | then-t-a-via-else-t-a+then-t-b w ↦ group-format c.args.cell c.args.s c.args.t (omega arith) 1 (omega arith) (w.if-t-b.true ∙ c.format_group-b.ensures)
      | then-t-a-via-else-t-a+else-t-b+then-t-c w ↦ group-format c.args.cell c.args.s c.args.t (omega arith) 2 (omega arith) (w.if-t-c.true ∙ c.format_group-c.ensures)
      | then-t-a-via-else-t-a+else-t-b+else-t-c+then-t-d w ↦ group-format c.args.cell c.args.s c.args.t (omega arith) 3 (omega arith) (w.if-t-d.true ∙ c.format_group-d.ensures)
    ]

pub overflow_sub-t : goal.overflow_sub-t
overflow_sub-t c =
    counted-le c.args.cell c.args.s c.args.t (omega arith) c.format_group-a.ensures c.format_group-b.ensures
    c.format_group-c.ensures c.format_group-d.ensures c.requires.0 c.formats_below.ensures.0

pub number_at-requires-2 : goal.number_at-requires-2
number_at-requires-2 c =
    (c.requires.0, c.requires.1, c.requires.2, omega (arith, c.requires.3))

pub returns : goal.returns
returns c =
    group-unit c.args.cell c.args.s c.args.t (omega arith) c.format_group-a.ensures c.format_group-b.ensures
    c.format_group-c.ensures c.format_group-d.ensures c.requires.0 c.formats_below.ensures.0
    c.if-t-a.false c.if-t-b.false c.if-t-c.false c.if-t-d.false _ c.number_at-2.ensures
