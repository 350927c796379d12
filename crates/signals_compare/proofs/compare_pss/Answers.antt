-- `signals_compare::compare_pss` meets its contract: the 62 elements are those of the mark. Assumes nothing.
use native.Mathlib.Omega.{arith}
use Rattle.std.proofs.Common.{rules}
use Rattle.compare.proofs.Accumulating.{comparing}
use Rattle.signals.specs.Rows.{phase_sent}
use Rattle.signals.proofs.Numbers.{mark-inside, pss-done}
use Rattle.signals.proofs.Values.{phase-value}
use Rattle.signals_compare.proofs.compare_pss.Goals as goal

pub compare_row-requires-clause-inside : goal.compare_row-requires-clause-inside
compare_row-requires-clause-inside c =
    mark-inside c.args.cell c.requires.cell 1 _ (omega arith, omega arith) c.mark_at.ensures c.requires

pub returns : goal.returns
returns c =
    let first = c.mark_at.result in
    pss-done c.args.cell c.requires.cell 1 _ (omega arith, omega arith) c.mark_at.ensures (comparing c.args.grid.now)
    (c.compare_row.ensures (phase_sent c.args.cell.identity first) (λ i el l p. phase-value c.args.cell.identity first i (search rules)))
