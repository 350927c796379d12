-- All 256 entries, by repetition. The invariant: the first x entries are those of their words.
use Prim.Native.Nat.{◌≤◌}
use Rattle.constellation.specs.Entries.{Entries}
use Rattle.constellation.proofs.set_elements.Given as goal

abbrev pub invariant-loop-x : goal.invariant-loop-x
invariant-loop-x l = Entries l.q l.byte l.x l.t × (l.n ≤ l.x) × (l.x ≤ 256)
