-- `data_write::doubles` meets its contract. Invariant: the places of the rounds before i are filled. Assumes nothing.
use native.Mathlib.Omega.{arith}
use Rattle.data_write.proofs.OnePort.{singles-start, singles-at, double-takes, double-fits, doubles-on, doubles-end}
use mathlib.Core.Path.{ap₂, ◌∙◌}
use Rattle.constellation.specs.Pairs.{joint_of}
use Rattle.data_write.proofs.doubles.Goals as goal

pub loop-i-init : goal.loop-i-init
loop-i-init c = singles-at (omega arith) singles-start

pub take-x-requires : goal.take-x-requires
take-x-requires c = double-takes c.requires c.loop-i.invariant c.loop-i-test.true

pub put_six-requires : goal.put_six-requires
put_six-requires c =
    (double-fits c.requires c.loop-i.invariant c.loop-i-test.true).0

pub loop-i-preserved : goal.loop-i-preserved
loop-i-preserved c =
    singles-at (omega arith)
    (doubles-on c.requires c.loop-i.invariant c.loop-i-test.true c.take-x.ensures
    (c.joint.ensures ∙ ap₂ joint_of c.number-a.ensures.0 c.number-b.ensures.0) c.put_six.auto.grid c.put_six.ensures)

pub returns : goal.returns
returns c = doubles-end c.loop-i.invariant c.loop-i-test.false
