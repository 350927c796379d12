-- The vacant groups of the symbols so far, one symbol more with each turn.
use Prim.Native.Nat.{◌≤◌, ◌-◌, ◌*◌}
use mathlib.Core.Path.{◌≡◌}
use Rattle.layout.specs.Chain.{vacant_before}
use Rattle.layout.proofs.vacant_before.Given as goal

abbrev pub invariant-loop-n : goal.invariant-loop-n
invariant-loop-n l = (l.sum ≡ vacant_before l.cell l.n l.k l.s) × (l.n ≤ l.symbols) × (l.sum ≤ 1023 * l.n)
