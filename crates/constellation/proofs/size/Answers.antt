-- The size of a level, from its byte.
use native.Mathlib.Omega.{arith}
use Rattle.constellation.proofs.Axes.{size_of, size_below}
use Rattle.constellation.proofs.size.Goals as goal

pub returns-then-b-lt128 : goal.returns-then-b-lt128
returns-then-b-lt128 c = (size_of c.args.b c.if-b-lt128.true, omega arith)

pub returns-else-b-lt128 : goal.returns-else-b-lt128
returns-else-b-lt128 c = (size_below c.args.b c.if-b-lt128.false c.requires, omega arith)
