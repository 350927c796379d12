-- `data_read::singles` meets its contract. Invariant: i places are read. Assumes nothing.
use native.Mathlib.Omega.{arith}
use Rattle.data_read.proofs.Words.{word-few}
use Rattle.data_read.proofs.Gatherings.{read_none}
use Rattle.data_read.proofs.Places.{single-gives, single-on, all_read}
use Rattle.data_read.proofs.singles.Goals as goal

pub loop-i-init : goal.loop-i-init
loop-i-init c = (omega arith, read_none c.requires.1)

pub give-requires : goal.give-requires
give-requires c =
    single-gives c.args.start c.requires.1 c.loop-i.invariant.1 c.loop-i-test.true
    (omega (arith, c.symbol_of.ensures, word-few c.requires.1.table c.three_at-x.result))

pub loop-i-preserved : goal.loop-i-preserved
loop-i-preserved c =
    let o = single-on c.args.start c.requires.1 c.loop-i.invariant.1 c.loop-i-test.true c.three_at-x.ensures c.symbol_of.ensures c.give.ensures in
    (omega arith, o)

pub returns : goal.returns
returns c = all_read c.loop-i.invariant.0 c.loop-i-test.false c.loop-i.invariant.1
