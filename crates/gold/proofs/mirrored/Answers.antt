-- `gold::mirrored` meets its contract. The loop has taken k bits. Assumes nothing.
use native.Mathlib.Omega.{arith}
use Rattle.gold.proofs.Loops.{mirrored-none, mirrored-lt, mirrored-more}
use Rattle.gold.proofs.mirrored.Goals as goal

pub loop-k-init : goal.loop-k-init
loop-k-init c = mirrored-none c.args.c

pub overflow_mul-x : goal.overflow_mul-x
overflow_mul-x c = let l = c.loop-k in omega (arith, mirrored-lt l.invariant)

pub overflow_add-x : goal.overflow_add-x
overflow_add-x c = let l = c.loop-k in omega (arith, mirrored-lt l.invariant)

pub loop-k-preserved : goal.loop-k-preserved
loop-k-preserved c = mirrored-more c.loop-k.invariant (omega arith)
