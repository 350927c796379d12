-- `read::read_sections` meets its contract: the HIs' section, then turn after turn, each into its own section. Assumes nothing.
use Prim.Native.Nat.{◌-◌}
use Rattle.schedule.specs.Cursor.{TurnIn}
use Rattle.read.specs.Reading.{ReadBefore, AxisOf}
use Rattle.read.proofs.read_sections.Given as goal

abbrev pub invariant-loop-turn : goal.invariant-loop-turn
invariant-loop-turn l = TurnIn l.plan l.p l.turn × ReadBefore l.plan l.p l.grid l.turn l.payload × AxisOf l.have l.d

abbrev pub decreases-loop-turn : goal.decreases-loop-turn
decreases-loop-turn l = l.turns - l.turn.number
