-- `gold::skip` meets its contract. The loop has gone 28 steps a round. Assumes nothing.
use native.Mathlib.Omega.{arith}
use mathlib.Core.Path.{sym}
use Prim.Native.Nat.{◌*◌}
use Rattle.gold.proofs.Laws.{after_none}
use Rattle.gold.proofs.Loops.{skipped}
use Rattle.gold.proofs.skip.Goals as goal

pub loop-init : goal.loop-init
loop-init c = sym (after_none c.args.r)

pub loop-preserved : goal.loop-preserved
loop-preserved c = skipped c.args.r (28 * c.loop.counter) 28 _ c.loop.invariant c.advance-s.ensures (omega arith)

pub returns-in_default : goal.returns-in_default
returns-in_default c = skipped c.args.r (28 * c.loop.counter) _ _ c.loop.invariant c.advance.ensures (omega arith)
