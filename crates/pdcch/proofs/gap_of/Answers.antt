-- Side by side in a group of four; in one of six by the identity.
use native.Mathlib.Omega.{arith}
use Rattle.pdcch.proofs.Gaps.{gap-four, gap-apart, gap-beside}
use Rattle.pdcch.proofs.gap_of.Goals as goal
use Rattle.pdcch.proofs.gap_of.Goals.{else-four-ne1-via-then-four-ne1+else-cell-eq1, else-four-ne1-via-else-four-ne1}

pub returns-then-cell-eq1 : goal.returns-then-cell-eq1
returns-then-cell-eq1 c = gap-apart c.args.cell c.args.four c.if-four-ne1.true c.if-cell-eq1.true

pub returns : goal.returns
returns c =
    elim c.else-four-ne1.branch [
      | else-four-ne1-via-then-four-ne1+else-cell-eq1 w ↦ gap-beside c.args.cell c.args.four w.if-four-ne1.true w.if-cell-eq1.false
      | else-four-ne1-via-else-four-ne1 w ↦ gap-four c.args.cell c.args.four (omega (arith, w.if-four-ne1.false))
    ]
