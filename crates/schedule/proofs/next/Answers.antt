-- `schedule::next` meets its contract: a user's turn, or another one. Assumes nothing.
use borrow.Enum.Refused.{opened}
use native.Mathlib.Omega.{arith}
use Rattle.schedule.proofs.Steps.{number-few, next-pass, next-user}
use Rattle.schedule.proofs.next.Goals as goal

pub overflow_add-result : goal.overflow_add-result
overflow_add-result c = let passing = c.requires.1 in omega (arith, number-few passing.due passing.is)

pub returns-in_default : goal.returns-in_default
returns-in_default c = next-pass (opened c.in_default.in_default-own.keys2)

pub overflow_add-result-2 : goal.overflow_add-result-2
overflow_add-result-2 c = let passing = c.requires.1 in omega (arith, number-few passing.due passing.is)

pub returns : goal.returns
returns c = next-user _ c.in-User.is _ c.next_at.ensures
