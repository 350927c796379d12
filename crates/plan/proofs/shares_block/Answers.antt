-- `plan::shares_block` meets its contract: each user begins before the other ends. Assumes nothing.
use mathlib.Core.Path.{refl}
use Rattle.plan.specs.Finding.{shares_block}
use Rattle.plan.proofs.shares_block.Goals as goal

pub returns : goal.returns
unfolding shares_block
returns c = refl
