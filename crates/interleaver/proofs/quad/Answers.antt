-- The place at the read of the position, less the empty places. Assumes nothing.
use native.Mathlib.Omega.{arith}
use Rattle.interleaver.proofs.Ways.{standing}
use Rattle.interleaver.proofs.quad.Goals as goal

pub overflow_sub-result : goal.overflow_sub-result
overflow_sub-result c = let s = standing c.args.c c.requires in omega (arith, s.place, s.read.empty)

pub returns : goal.returns
returns c = let s = standing c.args.c c.requires in omega (arith, s.place, s.read.empty)
