-- `plan::next_at` meets its contract: the position after a command, at most the end. Assumes nothing.
use lib.ListN.{drop}
use native.Mathlib.Omega.{arith}
use Rattle.plan.proofs.Reading.{size_is, next-in, next-out}
use Rattle.plan.proofs.next_at.Goals as goal

pub returns-then-plan-size : goal.returns-then-plan-size
returns-then-plan-size c =
    next-out c.args.plan.now c.args.at _ (size_is (drop c.args.at c.args.plan.now) _ _ c.byte_at.ensures
    c.size_of-size.ensures) (omega arith)

pub returns-then-plan-size-2 : goal.returns-then-plan-size-2
returns-then-plan-size-2 c =
    next-out c.args.plan.now c.args.at _ (size_is (drop c.args.at c.args.plan.now) _ _ c.byte_at.ensures
    c.size_of-size.ensures) (omega arith)

pub returns : goal.returns
returns c =
    next-in c.args.plan.now c.args.at _ (size_is (drop c.args.at c.args.plan.now) _ _ c.byte_at.ensures
    c.size_of-size.ensures) (omega arith)
