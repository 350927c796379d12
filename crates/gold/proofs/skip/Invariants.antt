-- `gold::skip` meets its contract. The loop has gone 28 steps a round. Assumes nothing.
use mathlib.Core.Path.{◌≡◌}
use Prim.Native.Nat.{◌*◌}
use Rattle.gold.specs.Steps.{after}
use Rattle.gold.proofs.skip.Given as goal

abbrev pub invariant-loop : goal.invariant-loop
invariant-loop l = l.s ≡ after l.fn.r (28 * l.counter)
