-- The product fits, and the sentence is the definition; in symbol 0 the quotient is the identity.
use native.Mathlib.Omega.{arith}
use Rattle.layout.proofs.Ways.{start_first, start-product, start_is}
use Rattle.layout.proofs.start_number.Goals as goal

pub returns-then-s-eq0 : goal.returns-then-s-eq0
returns-then-s-eq0 c = start_first c.args.cell c.requires.0 c.args.s c.if-s-eq0.true (omega arith)

pub overflow_mul-result : goal.overflow_mul-result
overflow_mul-result c =
    omega (arith, start-product c.args.cell c.args.s c.groups_left.ensures.0 c.groups_left.ensures.2 (omega arith))

pub returns : goal.returns
returns c =
    start_is c.args.cell c.args.s c.groups_left.ensures.0 c.groups_left.ensures.2 (omega arith)
    c.groups_left-2.ensures.0
