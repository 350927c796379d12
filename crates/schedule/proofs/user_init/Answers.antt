-- `schedule::user_init` meets its contract: by computation. Assumes nothing.
use mathlib.Core.Path.{refl}
use Rattle.subframe.specs.Elements.{user_init}
use Rattle.schedule.proofs.user_init.Goals as goal

pub returns : goal.returns
unfolding user_init
returns c = refl
