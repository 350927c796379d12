-- `mapper::check` meets its contract: the answer's number is that of the bytes. Assumes nothing.
use Rattle.mapper.proofs.Numbers.{check-numbers}
use Rattle.mapper.proofs.check.Goals as goal

pub returns : goal.returns
returns c = (c.check.ensures, check-numbers c.args.plan.now _ c.check.ensures)
