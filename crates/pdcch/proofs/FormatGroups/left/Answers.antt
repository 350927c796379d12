-- Beyond symbol 0 a group is its number.
use Rattle.pdcch.proofs.Taken.{group-first, group-later}
use Rattle.pdcch.proofs.FormatGroups.left.Goals as goal

pub returns-then-s-eq0 : goal.returns-then-s-eq0
returns-then-s-eq0 c =
    let f = c.args.self in
    group-first c.args.s f.first f.second f.third f.fourth c.args.n c.if-s-eq0.true c.left_group.ensures

pub returns : goal.returns
returns c =
    let f = c.args.self in
    group-later c.args.s f.first f.second f.third f.fourth c.args.n c.if-s-eq0.false
