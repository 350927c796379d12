-- `mapper::payload_length` meets its contract: by the plan check. Assumes nothing.
use Rattle.std.proofs.Common.{rules}
use Rattle.mapper.proofs.Numbers.{number_is, number-refused}
use Rattle.mapper.specs.Calls.{payload_length_of}
use Rattle.payload.specs.Payload.{payload_length}
use mathlib.Core.Path.{sym, ◌∙◌}
use Rattle.mapper.proofs.payload_length.Goals as goal

pub payload_length-requires : goal.payload_length-requires
payload_length-requires c = sym c.check.ensures ∙ c.in_ok-p.was

pub returns-in_err-p : goal.returns-in_err-p
unfolding payload_length_of
returns-in_err-p c = rw (← number-refused c.args.plan.now _ c.check.ensures _ c.in_err-p.was (payload_length c.args.plan.now)) (search rules)

pub returns : goal.returns
unfolding payload_length_of
returns c = number_is c.args.plan.now _ c.check.ensures _ c.in_ok-p.was (payload_length c.args.plan.now) _ c.payload_length.ensures
