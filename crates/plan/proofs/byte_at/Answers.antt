-- `plan::byte_at` meets its contract: a byte from a position on, 0 past the end. Assumes nothing.
use Rattle.plan.proofs.Reading.{byte-gone, byte-over, byte-there}
use Rattle.plan.proofs.byte_at.Goals as goal

pub returns-then-plan-at : goal.returns-then-plan-at
returns-then-plan-at c = byte-gone c.args.plan.now c.args.at c.args.i c.if-plan-at.true

pub returns-then-plan-at-2 : goal.returns-then-plan-at-2
returns-then-plan-at-2 c = byte-over c.args.plan.now c.args.at c.args.i c.if-plan-at-2.true

pub returns : goal.returns
returns c =
    byte-there c.args.plan.now c.args.at c.args.i
