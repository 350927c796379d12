-- The rows of an area. The loop's invariant: those of the symbols below s are set, and the row after the last has no span.
use mathlib.Core.Path.{◌≡◌}
use Rattle.areas.specs.Tables.{RowsSet}
use Rattle.areas.proofs.set_rows.Given as goal

abbrev pub invariant-loop-s : goal.invariant-loop-s
invariant-loop-s l = RowsSet l.first l.last l.lists l.masks l.s l.tables.rows × (l.tables.spans ≡ l.fn.tables.spans)
