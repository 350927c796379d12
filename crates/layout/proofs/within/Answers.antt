-- The two sides of the range.
use borrow.Author.Tests.{le-leb, lt-leb}
use Rattle.layout.proofs.within.Goals as goal

pub returns-then-a-d : goal.returns-then-a-d
returns-then-a-d c = simp (le-leb _ _ c.if-a-d.true)

pub returns-else-a-d : goal.returns-else-a-d
returns-else-a-d c = simp (lt-leb _ _ c.if-a-d.false)
