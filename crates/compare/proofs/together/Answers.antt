-- `compare::together` meets its contract: by the answers' cases. Assumes nothing.
use native.Mathlib.Omega.{arith}
use Rattle.compare.proofs.Answers.{both-few, both-weights, both-first, both-second}
use Rattle.compare.proofs.together.Goals as goal

pub overflow_add-result : goal.overflow_add-result
overflow_add-result c = omega (arith, both-few c.in_ok-a.was c.in_ok-b.was c.requires.0 c.requires.1)

pub returns : goal.returns
returns c = both-weights c.in_ok-a.was c.in_ok-b.was

pub returns-in_err-a : goal.returns-in_err-a
returns-in_err-a c = both-first c.args.b c.from_residual.ensures c.in_err-a.was

pub returns-in_err-b : goal.returns-in_err-b
returns-in_err-b c = both-second c.from_residual-in_err-b.ensures c.in_ok-a.was c.in_err-b.was
