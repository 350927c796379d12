-- `signals::crs_at` meets its contract: the sum does not wrap. Assumes nothing.
use native.Mathlib.Omega.{arith}
use Rattle.places.proofs.Numbers.{symbols-most}
use Rattle.plan.proofs.Counts.{ports-most}
use Rattle.signals.proofs.Numbers.{row-at-most, crs-first}
use Rattle.signals.proofs.crs_at.Goals as goal

pub row_at-requires : goal.row_at-requires
row_at-requires c = omega (arith, symbols-most c.args.cell, c.requires.1)

pub crs_first-requires : goal.crs_first-requires
crs_first-requires c = omega (arith, ports-most c.args.cell c.requires.0, c.requires.2)

pub overflow_add-result : goal.overflow_add-result
overflow_add-result c =
    omega (
      arith,
      row-at-most c.args.cell c.args.s c.args.port (omega arith) (omega arith)
          (omega (arith, symbols-most c.args.cell, c.requires.1)),
      c.row_at.ensures,
      c.crs_first.ensures,
    )

pub returns : goal.returns
returns c =
    crs-first c.args.cell c.args.s c.args.port c.row_at.ensures c.crs_first.ensures
