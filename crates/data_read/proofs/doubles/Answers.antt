-- `data_read::doubles` meets its contract. Invariant: two places are read in each of i rounds. Assumes nothing.
use native.Mathlib.Omega.{arith}
use Rattle.data_read.proofs.Gatherings.{read_none}
use Rattle.data_read.proofs.Places.{double-gives, double-on, all_read}
use Rattle.data_read.proofs.doubles.Goals as goal

pub loop-i-init : goal.loop-i-init
loop-i-init c = (omega arith, read_none c.requires.1)

pub give-requires : goal.give-requires
give-requires c =
    double-gives c.args.start c.args.n c.requires.1 c.loop-i.invariant.1 c.loop-i-test.true c.two_symbols.ensures.1

pub loop-i-preserved : goal.loop-i-preserved
loop-i-preserved c = (
  omega arith,
  double-on c.args.start c.args.n c.requires.1 c.loop-i.invariant.1 c.loop-i-test.true c.pair_at-x.ensures c.two_symbols.ensures.0 c.give.ensures,
)

pub returns : goal.returns
returns c = all_read (omega (arith, c.loop-i.invariant.0)) (omega (arith, c.loop-i-test.false)) c.loop-i.invariant.1
