-- `schedule::channel_at` meets its contract: a symbol's reference signals, or a later channel. Assumes nothing.
use native.Mathlib.Omega.{arith}
use Rattle.schedule.proofs.Steps.{signal-symbol, signal-found, later-found}
use Rattle.schedule.proofs.channel_at.Goals as goal

pub overflow_cast-result : goal.overflow_cast-result
overflow_cast-result c = omega (arith, signal-symbol c.requires c.symbols-signals.ensures.0 c.if-number-signals.true)

pub returns-then-number-signals : goal.returns-then-number-signals
returns-then-number-signals c = signal-found c.requires c.symbols-signals.ensures.0 c.if-number-signals.true

pub later_at-requires : goal.later_at-requires
later_at-requires c = (c.requires, omega (arith, c.symbols-signals.ensures, c.if-number-signals.false))

pub returns : goal.returns
returns c = later-found c.requires c.symbols-signals.ensures.0 c.if-number-signals.false c.later_at.ensures
