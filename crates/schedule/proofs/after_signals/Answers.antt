-- `schedule::after_signals` meets its contract: from its callees. Assumes nothing.
use mathlib.Core.Path.{ap₂, ap, ◌∙◌}
use Prim.Native.Nat.{ℕ}
use Rattle.schedule.specs.Cursor.{first_turn, later_turn}
use Rattle.schedule.specs.declared.Turn.{Turn}
use Rattle.schedule.proofs.after_signals.Goals as goal

pub returns : goal.returns
unfolding first_turn later_turn
returns c =
    ap₂ {C = Turn} (λ (n : ℕ) (t : Turn). record { number = n; at = t.at; start = t.start }) c.symbols.ensures.0 c.first.ensures
