-- Only empty places are passed, and a quad is left, so that the walk ends before the last read. Assumes nothing.
use native.Mathlib.Omega.{arith}
use Rattle.interleaver.proofs.Ways.{seeks-fit, seeks-on, seeks-less, seeks-end}
use Rattle.interleaver.proofs.seek.Goals as goal

pub pass-s-requires : goal.pass-s-requires
pass-s-requires c = seeks-fit c.args.c.quads c.args.c.at c.loop-s.s
    c.loop-s.invariant

pub loop-s-smaller : goal.loop-s-smaller
loop-s-smaller c = seeks-less c.args.c.quads c.args.c.at
    c.loop-s.s c.loop-s.invariant c.pass-s.result c.pass-s.ensures

pub loop-s-preserved : goal.loop-s-preserved
loop-s-preserved c = seeks-on c.args.c.quads c.args.c.at
    c.loop-s.s c.loop-s.invariant (omega arith) c.pass-s.result c.pass-s.ensures

pub returns : goal.returns
returns c = seeks-end c.args.c.quads c.args.c.at c.loop-s.s
    c.loop-s.invariant (omega arith)
