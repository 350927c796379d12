-- The run at a cursor: a span, or none at the row's end. Assumes that the row and its span are in the grid.
use native.Mathlib.Omega.{arith}
use Rattle.walk.proofs.Cursors.{row_fits, span_run, no_run}
use Rattle.walk.proofs.Tables.run_at.Goals as goal

pub overflow_mul-start : goal.overflow_mul-start
overflow_mul-start c = record { fits = (row_fits c.args.c.s c.args.carriers 0 c.requires.row c.requires.wide (omega arith)).0 }

pub overflow_add-result : goal.overflow_add-result
overflow_add-result c =
    record { fits = (row_fits c.args.c.s c.args.carriers c.byte-from.result c.requires.row c.requires.wide (c.byte-from.ensures.1)).1 }

pub returns-then-i-end : goal.returns-then-i-end
returns-then-i-end c = (
  span_run c.args.self.now.rows c.args.c c.byte-end.ensures.0 c.args.carriers c.args.self.now.spans c.if-i-end.true
      c.byte-mask.ensures.0 c.byte-from.ensures.0 c.byte-to.ensures.0,
  omega (arith, c.byte-to.ensures.1),
)

pub returns : goal.returns
returns c =
    (no_run c.args.self.now.rows c.args.c c.byte-end.ensures.0 c.args.carriers c.args.self.now.spans c.if-i-end.false c.byte-mask.ensures.0, omega arith)
