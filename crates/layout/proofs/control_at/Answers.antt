-- A place of a group of four, a place between two groups of six, or one of a group of six.
use native.Mathlib.Omega.{arith}
use Rattle.layout.proofs.Ways.{control-four, control-skipped, control-kept}
use Rattle.layout.proofs.control_at.Goals as goal

pub group_at-requires : goal.group_at-requires
group_at-requires c = (c.requires.0, c.requires.1, c.requires.2, omega (arith, c.requires.3))

pub returns-then-group_size-eq4 : goal.returns-then-group_size-eq4
returns-then-group_size-eq4 c =
    control-four c.args.cell c.args.s c.args.k c.group_size.ensures c.if-group_size-eq4.true _ c.group_at.ensures

pub returns-then-k-cell : goal.returns-then-k-cell
returns-then-k-cell c =
    control-skipped c.args.cell c.args.s c.args.k c.group_size.ensures c.if-group_size-eq4.false c.if-k-cell.true

pub group_at-requires-2 : goal.group_at-requires-2
group_at-requires-2 c =
    (c.requires.0, c.requires.1, c.requires.2, omega (arith, c.requires.3))

pub returns : goal.returns
returns c =
    control-kept c.args.cell c.args.s c.args.k c.group_size.ensures c.if-group_size-eq4.false c.if-k-cell.false _
    c.group_at-2.ensures
