-- `signals_write::fill_pss` meets its contract: the 62 elements are those of the mark. Assumes nothing.
use native.Mathlib.Omega.{arith}
use Rattle.std.proofs.Common.{rules}
use Rattle.grid.proofs.Accumulating.{writing}
use Rattle.signals.specs.Rows.{phase_sent}
use Rattle.signals.proofs.Numbers.{mark-inside, pss-done}
use Rattle.signals.proofs.Values.{phase-value}
use Rattle.signals_write.proofs.fill_pss.Goals as goal

pub fill_row-requires-clause-inside : goal.fill_row-requires-clause-inside
fill_row-requires-clause-inside c =
    mark-inside c.args.cell c.requires.cell 1 _ (omega arith, omega arith) c.mark_at.ensures c.requires

pub returns : goal.returns
returns c =
    let first = c.mark_at.result in
    pss-done c.args.cell c.requires.cell 1 _ (omega arith, omega arith) c.mark_at.ensures (writing c.args.grid.now)
    (c.fill_row.ensures (phase_sent c.args.cell.identity first) (λ i el l p. phase-value c.args.cell.identity first i (search rules)))
