-- `signals_write::fill_row` meets its contract. The loop: the first i elements stand, with any values that they can have. Assumes nothing.
use Prim.Native.Nat.{ℕ}
use Rattle.base.specs.declared.Element.{Element}
use Rattle.grid.proofs.Accumulating.{WrittenIn}
use Rattle.signals.specs.Rows.{Gives}
use Rattle.signals.proofs.ValueByValue.{RowDone}
use Rattle.signals_write.proofs.fill_row.Given as goal

abbrev pub invariant-loop-i : goal.invariant-loop-i
invariant-loop-i g l = (W : ℕ → Element) → Gives (goal.F-post g l.element) l.first W → RowDone (WrittenIn l.initial.grid) W l.first l.i l.grid
