-- `data_write::doubles` meets its contract. Invariant: the places of the rounds before i are filled. Assumes nothing.
use Prim.Native.Nat.{◌+◌, ◌*◌}
use Rattle.data_write.specs.OnePort.{SingleRounds}
use Rattle.data_write.proofs.doubles.Given as goal

abbrev pub invariant-loop-i : goal.invariant-loop-i
invariant-loop-i l = SingleRounds l.j l.start l.n 2 l.q l.t l.bits l.initial.st l.initial.grid (3 * (l.start + 2 * l.i)) l.i l.st l.grid
