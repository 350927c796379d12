-- `gold::word` meets its contract: the top of the sum of both registers. Assumes nothing.
use Rattle.gold.proofs.Cores.{word-is}
use Rattle.gold.proofs.word.Goals as goal

pub returns : goal.returns
returns c = word-is c.args.r c.args.n _ c.requires.1 c.top.ensures
