-- A bit of six, if it is named. Assumes that it is one of six.
use Rattle.areas.proofs.Masks.{bit-named, bit_not}
use Rattle.areas.proofs.bit_if.Goals as goal

pub returns-then-t : goal.returns-then-t
returns-then-t c = bit-named c.args.t c.args.v c.if-t.true

pub returns-else-t : goal.returns-else-t
returns-else-t c = bit_not c.args.t c.args.v c.if-t.false
