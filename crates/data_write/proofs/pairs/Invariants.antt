-- `data_write::pairs` meets its contract: the pairs of the rounds before i are filled, with the stream's word in locals. Assumes nothing.
use Prim.Native.Nat.{◌+◌, ◌*◌}
use Rattle.codeword.specs.Bits48.{with_rest}
use Rattle.data_write.specs.Pairs.{Rounds}
use Rattle.data_write.proofs.pairs.Given as goal

abbrev pub invariant-loop-i : goal.invariant-loop-i
invariant-loop-i g l =
    Rounds l.ports l.places g.row.GAP l.j l.start g.row.STEP l.n l.q l.t l.bits l.initial.st l.initial.grid l.f (l.f.at + 6 * g.row.STEP * l.i)
    (l.f.next + 6 * g.row.STEP * l.i) l.i (with_rest l.st l.h) l.grid
