-- The count of a mark. Assumes nothing.
use mathlib.Core.Path.{refl}
use Rattle.counts.specs.Kinds.{sync_elements}
use Rattle.counts.proofs.sync_count.Goals as goal

pub returns-then-is_marked : goal.returns-then-is_marked
unfolding sync_elements
returns-then-is_marked c = rw (← c.is_marked.ensures, c.if-is_marked.true) refl

pub returns : goal.returns
unfolding sync_elements
returns c = rw (← c.is_marked.ensures, c.if-is_marked.false) refl
