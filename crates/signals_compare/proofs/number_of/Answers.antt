-- `signals_compare::number_of` meets its contract. Assumes nothing.
use native.Mathlib.Omega.{arith}
use Rattle.signals_compare.proofs.Differing.{number_is}
use Rattle.signals_compare.proofs.number_of.Goals as goal

pub returns : goal.returns
returns c = (number_is c.args.two, omega arith)
