-- One law for each return: symbol 0, groups of four, groups of six.
use native.Mathlib.Omega.{arith}
use Rattle.layout.proofs.Ways.{left-at-first, left-of-fours, left-of-sixes}
use Rattle.layout.proofs.groups_left.Goals as goal

pub returns-then-s-eq0 : goal.returns-then-s-eq0
returns-then-s-eq0 c = left-at-first c.args.cell c.requires.0 (omega arith) c.args.s c.wide-n.ensures c.if-s-eq0.true

pub returns-then-group_size-eq4 : goal.returns-then-group_size-eq4
returns-then-group_size-eq4 c =
    left-of-fours c.args.cell c.requires.0 (omega arith) c.args.s c.wide-n.ensures c.if-s-eq0.false c.group_size.ensures
    c.if-group_size-eq4.true

pub returns-else-group_size-eq4 : goal.returns-else-group_size-eq4
returns-else-group_size-eq4 c =
    left-of-sixes c.args.cell c.requires.0 (omega arith) c.args.s c.wide-n.ensures c.if-s-eq0.false c.group_size.ensures
    c.if-group_size-eq4.false
