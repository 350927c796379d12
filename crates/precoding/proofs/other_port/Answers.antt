-- `precoding::other_port` meets its contract. Assumes nothing.
use native.Mathlib.Omega.{arith}
use Rattle.precoding.proofs.Ports.{own-small, other-is}
use Rattle.precoding.proofs.other_port.Goals as goal

pub overflow_add-result : goal.overflow_add-result
overflow_add-result c = omega (arith, own-small c.args.ports c.args.pair)

pub returns : goal.returns
returns c = other-is c.args.ports c.args.pair c.own_port.result c.own_port.ensures
