-- `gold::advance` meets its contract: the pair is 31 bits of each window. Assumes nothing.
use Rattle.gold.proofs.Cores.{advance-is}
use Rattle.gold.proofs.advance.Goals as goal

pub returns : goal.returns
returns c =
    advance-is c.args.r _ c.args.n _ _ _ _ c.requires.0 c.requires.1 c.fed1.ensures
    c.windowed.ensures c.moved.ensures c.fed2.ensures c.windowed-2.ensures
    c.moved-2.ensures
