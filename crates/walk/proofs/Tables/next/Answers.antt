-- The next span, or the next row. Assumes nothing.
use Prim.Native.Nat.{◌+◌, ◌≤◌}
use native.Mathlib.Omega.{arith}
use Rattle.walk.proofs.Cursors.{span-steps, row-steps}
use Rattle.walk.proofs.Tables.next.Goals as goal
use Rattle.walk.proofs.Tables.next.Goals.{else-i-end-via-then-i-end+else-i-end-2, else-i-end-via-else-i-end}

pub returns-then-i-end-2 : goal.returns-then-i-end-2
returns-then-i-end-2 c =
    let s = c.args in
    (span-steps s.self.now.rows s.c c.byte-end.ensures.0 c.if-i-end-2.true, omega arith)

pub returns : goal.returns
returns c =
    let s = c.args in
    let last : c.byte-end.result ≤ s.c.i + 1 =
    elim c.else-i-end.branch [ else-i-end-via-then-i-end+else-i-end-2 w ↦ omega arith | else-i-end-via-else-i-end w ↦ omega arith ] in
    (row-steps s.self.now.rows s.c c.byte-end.ensures.0 last c.byte.ensures.0, omega arith)
