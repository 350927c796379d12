-- `data_write::singles` meets its contract. Invariant: the places of the rounds before i are filled. Assumes nothing.
use native.Mathlib.Omega.{arith}
use Rattle.data_write.proofs.OnePort.{singles-start, singles-at, single-takes, single-fits, singles-on, singles-end}
use Rattle.data_write.proofs.singles.Goals as goal

pub loop-i-init : goal.loop-i-init
loop-i-init c = singles-at (omega arith) singles-start

pub take-x-requires : goal.take-x-requires
take-x-requires c = single-takes c.requires c.loop-i.invariant c.loop-i-test.true

pub put_three-requires : goal.put_three-requires
put_three-requires c =
    (single-fits c.requires c.loop-i.invariant c.loop-i-test.true).0

pub loop-i-preserved : goal.loop-i-preserved
loop-i-preserved c =
    singles-at (omega arith)
    (singles-on c.requires c.loop-i.invariant c.loop-i-test.true c.take-x.ensures c.number.ensures.0 c.put_three.auto.grid c.put_three.ensures)

pub returns : goal.returns
returns c = singles-end c.loop-i.invariant c.loop-i-test.false
