-- Only empty places are passed, and a quad is left, so that the walk ends before the last read. Assumes nothing.
use Prim.Native.Nat.{◌-◌, ◌*◌}
use Rattle.interleaver.specs.Matrix.{rows_of}
use Rattle.interleaver.specs.Cursor.{Seeks, read_by}
use Rattle.interleaver.proofs.seek.Given as goal

abbrev pub invariant-loop-s : goal.invariant-loop-s
invariant-loop-s l = Seeks l.initial.s.quads l.initial.s.at l.s

abbrev pub decreases-loop-s : goal.decreases-loop-s
decreases-loop-s l = 32 * rows_of l.initial.s.quads - read_by l.initial.s.quads l.s
