-- Two pairs are read in each of i rounds.
use Prim.Native.Nat.{◌+◌, ◌*◌}
use Rattle.data_read.proofs.Places.{Rounds}
use Rattle.data_read.proofs.rounds.Given as goal

abbrev pub invariant-loop-i : goal.invariant-loop-i
invariant-loop-i g l =
    Rounds l.ports l.places g.row.GAP l.j l.start l.step l.n l.q l.d l.grid l.initial.st l.initial.part (l.at + 6 * l.step * l.i) (l.next + 6 * l.step * l.i) l.i
    l.st l.part
