-- `control_read::first_sums` meets its contract: unit after unit. Assumes nothing.
use native.Mathlib.Omega.{arith}
use Rattle.control_read.proofs.Reading.{first-start, first_to, unit-read}
use Rattle.control_read.proofs.first_sums.Goals as goal

pub loop-m-init : goal.loop-m-init
loop-m-init c =
    first-start c.requires.size

pub read_quad-requires : goal.read_quad-requires
read_quad-requires c =
    (unit-read c.requires c.loop-m-test.true c.units-m-end.ensures, c.loop-m.invariant)

pub loop-m-preserved : goal.loop-m-preserved
loop-m-preserved c = first_to _ (omega arith) c.read_quad.ensures

pub returns : goal.returns
returns c =
    first_to _ (omega (arith, c.loop-m-test.false, c.units-m-end.ensures)) c.loop-m.invariant
