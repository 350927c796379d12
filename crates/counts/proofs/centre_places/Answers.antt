-- The same where the centre is taken. Assumes nothing.
use Rattle.counts.proofs.Shapes.{centre-taken, centre-free}
use Rattle.counts.proofs.centre_places.Goals as goal

pub returns-then-taken : goal.returns-then-taken
returns-then-taken c = let a = c.args in
    centre-taken a.cell a.frame a.s _ _ c.taken.ensures c.if-taken.true c.row_places.ensures

pub returns : goal.returns
returns c = let a = c.args in
    centre-free a.cell a.frame a.s _ c.taken.ensures c.if-taken.false
