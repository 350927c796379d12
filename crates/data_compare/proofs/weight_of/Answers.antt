-- Three bytes for each of n places, or six.
use mathlib.Core.Path.{refl}
use borrow.Author.Tests.{eq-eqb, ne_eqb}
use Rattle.data_compare.proofs.weight_of.Goals as goal

pub returns-then-ports-eq1 : goal.returns-then-ports-eq1
returns-then-ports-eq1 c = rw (eq-eqb c.args.ports 1 c.if-ports-eq1.true) refl

pub returns-else-ports-eq1 : goal.returns-else-ports-eq1
returns-else-ports-eq1 c = rw (ne_eqb c.args.ports 1 c.if-ports-eq1.false) refl
