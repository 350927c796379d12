-- `plan::broken_cause` meets its contract: a known command byte is cut off, another is unknown. Assumes nothing.
use mathlib.Core.Path.{refl}
use Rattle.plan.specs.Commands.{entries}
use Rattle.plan.proofs.broken_cause.Goals as goal

pub returns-then-one_of : goal.returns-then-one_of
unfolding entries
returns-then-one_of c =
    rw (← c.byte_at.ensures, ← c.one_of.ensures, c.if-one_of.true) refl

pub returns-else-one_of : goal.returns-else-one_of
unfolding entries
returns-else-one_of c =
    rw (← c.byte_at.ensures, ← c.one_of.ensures, c.if-one_of.false) refl
