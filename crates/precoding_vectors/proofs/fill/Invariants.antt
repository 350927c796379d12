-- `precoding_vectors::fill` writes place by place into a grid that stays as long as it was. Assumes nothing.
use Prim.Native.Nat.{◌-◌, ◌≤◌}
use Rattle.grid.specs.Writing.{Room}
use Rattle.precoding_vectors.proofs.fill.Given as goal

abbrev pub invariant-loop-j : goal.invariant-loop-j
invariant-loop-j l = Room l.ports l.places l.grid × (l.j ≤ l.places)
