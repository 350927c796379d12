-- `schedule::count` meets its contract: the sum of its parts. Assumes nothing.
use native.Mathlib.Omega.{arith}
use Rattle.plan.proofs.Counts.{units-most}
use Rattle.schedule.specs.Schedule.{channel_count}
use Rattle.schedule.proofs.count.Goals as goal

pub overflow_add-result : goal.overflow_add-result
overflow_add-result c = omega (arith, c.symbols.ensures)

pub overflow_add-result-2 : goal.overflow_add-result-2
overflow_add-result-2 c = omega (arith, c.symbols.ensures, c.units.ensures, units-most c.args.p.cell c.requires.0)

pub overflow_add-result-3 : goal.overflow_add-result-3
overflow_add-result-3 c = omega (arith, c.symbols.ensures, c.units.ensures, units-most c.args.p.cell c.requires.0, c.requires.1)

pub returns : goal.returns
unfolding channel_count
returns c = omega (arith, c.symbols.ensures, c.units.ensures)
