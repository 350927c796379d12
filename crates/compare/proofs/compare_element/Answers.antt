-- `compare::compare_element` meets its contract: byte after byte. Assumes nothing.
use native.Mathlib.Omega.{arith}
use Rattle.compare.proofs.Answers.{mark-few, all_same, other}
use Rattle.compare.proofs.compare_element.Goals as goal

pub overflow_add-result : goal.overflow_add-result
overflow_add-result c = omega (arith, mark-few _ c.from.ensures, mark-few _ c.from-then-eq.ensures)

pub overflow_add-result-then-eq : goal.overflow_add-result-then-eq
overflow_add-result-then-eq c = omega (arith, mark-few _ c.from.ensures, mark-few _ c.from-then-eq.ensures, mark-few _ c.from-then-eq-2.ensures)

pub returns-then-eq : goal.returns-then-eq
returns-then-eq c = all_same c.args.a c.args.b c.eq.ensures c.if-eq.true c.from.ensures c.from-then-eq.ensures c.from-then-eq-2.ensures

pub returns-else-eq : goal.returns-else-eq
returns-else-eq c = other c.args.a c.args.b c.eq.ensures c.if-eq.false
