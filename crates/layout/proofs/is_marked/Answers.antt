-- The two subframes.
use borrow.Author.Tests.{eq-eqb, ne_eqb}
use Rattle.layout.specs.Rules.{marked}
use Rattle.layout.proofs.is_marked.Goals as goal

pub returns-then-frame-eq0 : goal.returns-then-frame-eq0
unfolding marked
returns-then-frame-eq0 c = simp (eq-eqb _ _ c.if-frame-eq0.true)

pub returns : goal.returns
unfolding marked
returns c = simp (ne_eqb _ _ c.if-frame-eq0.false)
