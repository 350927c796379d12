-- A symbol's mask, and 64 more where its centre is left out: one law for each return.
use native.Mathlib.Omega.{arith}
use Rattle.areas.proofs.Tables.{byte-out, byte-not, byte-none}
use Rattle.walk.proofs.Forms.{single-small}
use Rattle.areas.proofs.row_byte.Goals as goal
use Rattle.areas.proofs.row_byte.Goals.{else-leaves-via-then-leaves+else-taken, else-leaves-via-else-leaves}

pub overflow_add-result : goal.overflow_add-result
overflow_add-result c = omega (arith, single-small c.row_mask-mask.ensures.single)

pub returns-then-taken : goal.returns-then-taken
returns-then-taken c =
    byte-out c.row_mask-mask.ensures c.args.frame c.args.leaves c.if-leaves.true c.if-taken.true c.taken.ensures

pub returns : goal.returns
returns c =
    elim c.else-leaves.branch [
      | else-leaves-via-then-leaves+else-taken w ↦ byte-not c.row_mask-mask.ensures c.args.frame c.args.leaves w.if-taken.false w.taken.ensures
      | else-leaves-via-else-leaves w ↦ byte-none c.row_mask-mask.ensures c.args.frame c.args.leaves w.if-leaves.false
    ]
