-- The two prefixes.
use borrow.Author.Tests.{eq-eqb, ne_eqb}
use Rattle.layout.specs.Rules.{slot_length}
use Rattle.layout.proofs.slot_length.Goals as goal

pub returns-then-cell-eq1 : goal.returns-then-cell-eq1
unfolding slot_length
returns-then-cell-eq1 c = simp (eq-eqb _ _ c.if-cell-eq1.true)

pub returns-else-cell-eq1 : goal.returns-else-cell-eq1
unfolding slot_length
returns-else-cell-eq1 c = simp (ne_eqb _ _ c.if-cell-eq1.false)
