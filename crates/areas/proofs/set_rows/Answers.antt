-- The rows of an area. The loop's invariant: those of the symbols below s are set, and the row after the last has no span.
use lib.ListN.{get_or}
use native.Mathlib.Omega.{arith}
use mathlib.Core.Path.{refl, ◌∙◌}
use Rattle.areas.proofs.Tables.{rows_none, rows_on, rows_all, spans-few}
use Rattle.areas.proofs.set_rows.Goals as goal

pub loop-s-init : goal.loop-s-init
loop-s-init c =
    (rows_none c.args.first c.args.last c.args.lists c.args.masks.now c.put_row.ensures.0, c.put_row.ensures.1)

pub put_row-requires-in-loop-s : goal.put_row-requires-in-loop-s
put_row-requires-in-loop-s c =
    let few = spans-few c.args.first c.args.last c.args.lists c.loop-s.s (get_or c.args.masks.now c.loop-s.s 0)
    c.row_spans-r.ensures c.requires.0 c.requires.1 c.requires.2 in
    (omega arith, few.0, few.1)

pub loop-s-preserved : goal.loop-s-preserved
loop-s-preserved c = (
  rows_on c.args.first c.args.last c.args.lists c.args.masks.now c.loop-s.invariant.0 (omega arith) refl
      c.row_spans-r.ensures c.put_row-in-loop-s.ensures.0,
  c.put_row-in-loop-s.ensures.1 ∙ c.loop-s.invariant.1,
)

pub returns : goal.returns
returns c =
    (rows_all c.args.first c.args.last c.args.lists c.args.masks.now c.loop-s.invariant.0 (omega arith), c.loop-s.invariant.1)
