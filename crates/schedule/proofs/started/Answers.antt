-- `schedule::started` meets its contract: from its three callees. Assumes nothing.
use mathlib.Core.Path.{◌∙◌}
use Rattle.gold.specs.Sequence.{pair_at}
use Rattle.schedule.proofs.started.Goals as goal

pub returns : goal.returns
returns c = c.pair_at.ensures ∙ (λ i. pair_at (c.c_init.ensures i) (c.first_bit.ensures i))
