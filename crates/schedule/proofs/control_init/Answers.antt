-- `schedule::control_init` meets its contract: the products fit. Assumes nothing.
use native.Mathlib.Omega.{arith}
use mathlib.Core.Path.{refl}
use Rattle.subframe.specs.Elements.{control_init}
use Rattle.schedule.proofs.Starts.{product}
use Rattle.schedule.proofs.control_init.Goals as goal

pub overflow_mul-result-2 : goal.overflow_mul-result-2
overflow_mul-result-2 c = omega (arith, product c.args.frame.subframe c.args.cell.identity c.requires.1.subframe c.requires.0.identity)

pub overflow_mul-result-3 : goal.overflow_mul-result-3
overflow_mul-result-3 c = omega (arith, product c.args.frame.subframe c.args.cell.identity c.requires.1.subframe c.requires.0.identity)

pub overflow_add-result-3 : goal.overflow_add-result-3
overflow_add-result-3 c = omega (arith, product c.args.frame.subframe c.args.cell.identity c.requires.1.subframe c.requires.0.identity)

pub returns : goal.returns
unfolding control_init
returns c = refl
