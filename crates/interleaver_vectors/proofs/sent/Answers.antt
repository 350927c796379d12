-- `interleaver_vectors::sent` ends, and its cursor stands at one of the positions. Assumes nothing.
use native.Mathlib.Omega.{arith}
use native.Mathlib.Nat.{mod-lt}
use Rattle.interleaver.proofs.Steps.{walk_from, walk-stands, walk_step}
use Rattle.interleaver_vectors.proofs.sent.Goals as goal

pub start-c-requires : goal.start-c-requires
start-c-requires g c = (mod-lt c.args.cell (omega arith), omega arith)

pub loop-n-init : goal.loop-n-init
loop-n-init g c = (omega arith, walk_from c.args.quads c.args.cell c.start-c.result c.start-c.ensures)

pub quad-requires : goal.quad-requires
quad-requires g c = walk-stands c.args.quads c.args.cell
    c.loop-n.n (omega arith) (omega arith) c.loop-n.c
    c.loop-n.invariant.1

pub step-c-requires : goal.step-c-requires
step-c-requires g c = walk-stands c.args.quads
    c.args.cell c.loop-n.n
    (omega arith) (omega arith) c.loop-n.c
    c.loop-n.invariant.1

pub loop-n-preserved : goal.loop-n-preserved
loop-n-preserved g c = (
  omega arith,
  walk_step c.args.quads
      c.args.cell
      c.loop-n.n (omega arith) (omega arith)
      c.loop-n.c c.loop-n.invariant.1
      c.step-c.result c.step-c.ensures,
)
