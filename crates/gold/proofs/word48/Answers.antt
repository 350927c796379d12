-- `gold::word48` meets its contract: the top of the sum of both numbers. Assumes nothing.
use mathlib.Core.Path.{refl}
use Rattle.gold.proofs.Values64.{gives48}
use Rattle.gold.proofs.word48.Goals as goal

pub returns : goal.returns
returns c = gives48 c.args.w _ refl
