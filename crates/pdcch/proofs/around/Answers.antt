-- At the end of the ring it begins again.
use Rattle.pdcch.proofs.Taken.{around-end, around-on}
use Rattle.pdcch.proofs.around.Goals as goal

pub returns-then-n-h : goal.returns-then-n-h
returns-then-n-h c =
    around-end c.args.n c.args.h c.if-n-h.true

pub returns-else-n-h : goal.returns-else-n-h
returns-else-n-h c =
    around-on c.args.n c.args.h c.requires c.if-n-h.false
