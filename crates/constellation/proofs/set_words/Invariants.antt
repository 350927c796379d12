-- The words of q bits, two bits a step. The invariant: the words of so many pairs of bits have their entries.
use Prim.Native.Nat.{◌*◌, ◌/◌, ◌^◌, ◌≤◌}
use Rattle.constellation.specs.Entries.{Entries}
use Rattle.constellation.proofs.set_words.Given as goal

abbrev pub invariant-loop-pairs : goal.invariant-loop-pairs
invariant-loop-pairs l = Entries (2 * l.pairs) l.byte (2 ^ (2 * l.pairs)) l.t × (l.pairs ≤ l.q / 2)
