-- `sync::around` meets its contract. Assumes nothing.
use mathlib.Core.Path.{refl}
use Rattle.sync.specs.Inner.{around_of}
use Rattle.sync.proofs.around.Goals as goal

pub returns : goal.returns
unfolding around_of
returns c = refl
