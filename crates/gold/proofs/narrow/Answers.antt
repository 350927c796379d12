-- `gold::narrow` meets its contract: the first 31 of 64 values. Assumes nothing.
use mathlib.Core.Path.{refl}
use Rattle.gold.proofs.Values64.{narrows}
use Rattle.gold.proofs.narrow.Goals as goal

pub returns : goal.returns
returns c = narrows c.args.w _ refl refl
