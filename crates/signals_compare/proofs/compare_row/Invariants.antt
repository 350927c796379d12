-- `signals_compare::compare_row` meets its contract. The loop: the first i elements are compared, with any values that they can have. Assumes
-- nothing.
use Prim.Native.Nat.{ℕ, ◌*◌, ◌≤◌}
use Rattle.std.specs.Prelude.{Some}
use Rattle.base.specs.declared.Element.{Element}
use Rattle.compare.proofs.Accumulating.{ComparedIn}
use Rattle.signals.specs.Rows.{Gives}
use Rattle.signals.proofs.ValueByValue.{RowDone}
use Rattle.signals_compare.proofs.compare_row.Given as goal

abbrev pub invariant-loop-i : goal.invariant-loop-i
invariant-loop-i g l =
    (l.weight ≤ 3 * l.i)
    × ((W : ℕ → Element) → Gives (goal.F-post g l.element) l.first W → RowDone (ComparedIn l.grid) W l.first l.i (Some l.weight))
