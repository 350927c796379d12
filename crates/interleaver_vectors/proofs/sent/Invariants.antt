-- `interleaver_vectors::sent` ends, and its cursor stands at one of the positions. Assumes nothing.
use mathlib.Core.Path.{◌≡◌}
use Prim.Native.Nat.{◌+◌, ◌-◌, ◌%◌, ◌≤◌}
use Rattle.interleaver.specs.Cursor.{cursor_at}
use Rattle.interleaver_vectors.proofs.sent.Given as goal

abbrev pub invariant-loop-n : goal.invariant-loop-n
invariant-loop-n g l = (l.n ≤ l.quads) × (l.c ≡ cursor_at l.quads ((l.cell + l.n) % l.quads))
