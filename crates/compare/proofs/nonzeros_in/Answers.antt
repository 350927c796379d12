-- `compare::nonzeros_in` meets its contract: byte after byte. Assumes nothing.
use native.Mathlib.Omega.{arith}
use Rattle.compare.proofs.Nonzeros.{count_none, count-one, count-zero, count-all}
use Rattle.compare.proofs.nonzeros_in.Goals as goal
use Rattle.compare.proofs.nonzeros_in.Goals.{then-b-ne0, else-b-ne0}

pub loop-b-init : goal.loop-b-init
loop-b-init c = (omega arith, count_none c.args.part.now)

pub loop-b-preserved : goal.loop-b-preserved
loop-b-preserved c =
    let l = c.loop-b in
    let h = c.loop-b-test.true in
    elim c.if-b-ne0.branch [
      | then-b-ne0 w ↦ rw w.n-is (omega arith, count-one l.invariant.1 h w.if-b-ne0.true)
      | else-b-ne0 w ↦ rw w.n-is (omega arith, count-zero l.invariant.1 h w.if-b-ne0.false)
    ]

pub returns : goal.returns
returns c = count-all c.loop-b.invariant.1 c.loop-b-test.false
