-- Both ways of the test. Assumes nothing.
use mathlib.Core.Path.{refl}
use borrow.Author.Tests.{lt-ltb, le-ltb}
use Rattle.interleaver.specs.Cursor.{next_of}
use Rattle.interleaver.proofs.pass.Goals as goal

pub returns-then-c : goal.returns-then-c
unfolding next_of
returns-then-c c = rw (lt-ltb _ _ c.if-c.true) refl

pub returns : goal.returns
unfolding next_of
returns c = rw (le-ltb _ _ c.if-c.false, c.column_at.ensures.0) refl
