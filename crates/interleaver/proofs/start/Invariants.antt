-- The invariant: the position and the empty places passed are what is left and the reads passed. Assumes nothing.
use mathlib.Core.Path.{◌≡◌}
use Prim.Native.Nat.{◌+◌, ◌*◌, ◌≤◌}
use Rattle.base.specs.Counts.{cnt}
use Rattle.interleaver.specs.Matrix.{rows_of, empty_of}
use Rattle.interleaver.specs.Cursor.{empty_in}
use Rattle.interleaver.proofs.start.Given as goal

abbrev pub invariant-loop-order : goal.invariant-loop-order
invariant-loop-order l =
    (l.left ≤ l.at) × (l.left + l.order * rows_of l.quads ≡ l.at + cnt (empty_in (empty_of l.quads)) l.order)
