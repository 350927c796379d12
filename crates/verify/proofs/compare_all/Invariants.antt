-- `verify::compare_all` meets its contract: turn after turn. Assumes nothing.
use Prim.Native.Nat.{◌-◌}
use Rattle.verify.proofs.Channels.{Going}
use Rattle.verify.proofs.compare_all.Given as goal

abbrev pub invariant-loop-turn : goal.invariant-loop-turn
invariant-loop-turn l = Going l.plan l.p l.grid l.control l.sums l.masks l.shape l.turns l.turn l.seen

abbrev pub decreases-loop-turn : goal.decreases-loop-turn
decreases-loop-turn l = l.turns - l.turn.number
