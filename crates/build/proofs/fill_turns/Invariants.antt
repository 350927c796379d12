-- `build::fill_turns` meets its contract: turn after turn. Assumes nothing.
use Prim.Native.Nat.{◌-◌}
use Rattle.build.proofs.Turns.{Going}
use Rattle.build.specs.Filling.{Ready, Having}
use Rattle.build.proofs.fill_turns.Given as goal

abbrev pub invariant-loop-turn : goal.invariant-loop-turn
invariant-loop-turn l = Having l.p.cell.ports l.have l.t × ((r : Ready l.plan l.p l.payload l.initial.grid) → Going r l.turn l.grid)

abbrev pub decreases-loop-turn : goal.decreases-loop-turn
decreases-loop-turn l = l.turns - l.turn.number
