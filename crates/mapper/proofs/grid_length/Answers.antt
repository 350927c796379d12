-- `mapper::grid_length` meets its contract: by the plan check. Assumes nothing.
use Rattle.std.proofs.Common.{rules}
use Rattle.mapper.proofs.Numbers.{number_is, number-refused}
use Rattle.mapper.specs.Calls.{grid_length_of}
use Rattle.payload.specs.Payload.{grid_length}
use Rattle.mapper.proofs.grid_length.Goals as goal

pub returns-in_err-p : goal.returns-in_err-p
unfolding grid_length_of
returns-in_err-p c = rw (← number-refused c.args.plan.now _ c.check.ensures _ c.in_err-p.was grid_length) (search rules)

pub returns : goal.returns
unfolding grid_length_of
returns c = number_is c.args.plan.now _ c.check.ensures _ c.in_ok-p.was grid_length _ c.grid_length.ensures
