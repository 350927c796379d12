-- The three bounds, in turn.
use borrow.Author.Tests.{lt-ltb, le-ltb}
use mathlib.Core.Path.{refl}
use Rattle.layout.specs.Query.{in_grid}
use Rattle.layout.proofs.in_grid.Goals as goal

pub returns-then-k-carriers : goal.returns-then-k-carriers
unfolding in_grid
returns-then-k-carriers c =
    rw (← c.symbols.ensures.0, lt-ltb _ _ c.if-s-symbols.true, ← c.carriers.ensures, lt-ltb _ _ c.if-k-carriers.true) refl

pub returns-else-k-carriers : goal.returns-else-k-carriers
unfolding in_grid
returns-else-k-carriers c = rw (← c.symbols.ensures.0, lt-ltb _ _ c.if-s-symbols.true, ← c.carriers.ensures, le-ltb _ _ c.if-k-carriers.false) refl

pub returns-else-s-symbols : goal.returns-else-s-symbols
unfolding in_grid
returns-else-s-symbols c = rw (← c.symbols.ensures.0, le-ltb _ _ c.if-s-symbols.false) refl
