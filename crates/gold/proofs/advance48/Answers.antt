-- `gold::advance48` meets its contract. Assumes nothing.
use mathlib.Core.Path.{refl}
use Rattle.gold.proofs.Values64.{goes48}
use Rattle.gold.proofs.advance48.Goals as goal

pub returns : goal.returns
returns c = goes48 c.args.w _ refl refl
