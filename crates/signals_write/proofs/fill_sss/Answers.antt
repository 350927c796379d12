-- `signals_write::fill_sss` meets its contract: the 62 elements are those of the mark. Assumes nothing.
use native.Mathlib.Omega.{arith}
use Rattle.std.proofs.Common.{rules}
use Rattle.grid.proofs.Accumulating.{writing}
use Rattle.signals.specs.Rows.{level_sent}
use Rattle.signals.proofs.Numbers.{mark-inside, sss-done}
use Rattle.signals.proofs.Values.{level-value}
use Rattle.signals_write.proofs.fill_sss.Goals as goal

pub fill_row-requires-clause-inside : goal.fill_row-requires-clause-inside
fill_row-requires-clause-inside c =
    mark-inside c.args.cell c.requires.cell 2 _ (omega arith, omega arith) c.mark_at.ensures c.requires

pub returns : goal.returns
returns c =
    let first = c.mark_at.result in
    let d = c.sss_for-d.result in
    sss-done c.args.cell c.requires.cell 2 _ (omega arith, omega arith) c.mark_at.ensures (writing c.args.grid.now)
    c.args.frame _ c.sss_for-d.ensures (c.fill_row.ensures (level_sent d first) (λ i el l p. level-value d first i (search rules)))
