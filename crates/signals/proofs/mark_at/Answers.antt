-- `signals::mark_at` meets its contract: an accepted cell has at least six blocks. Assumes nothing.
use Prim.Native.Nat.{◌-◌}
use native.Mathlib.Omega.{arith}
use Rattle.plan.proofs.Counts.{blocks-least}
use Rattle.signals.proofs.Numbers.{mark-first, row-at-most}
use Rattle.layout.proofs.Pilot.{slot-length}
use Rattle.signals.proofs.mark_at.Goals as goal

pub overflow_sub-s : goal.overflow_sub-s
overflow_sub-s c = omega (arith, c.slot_length.ensures, slot-length c.args.cell)

pub row_at-requires : goal.row_at-requires
row_at-requires c = omega (arith, c.slot_length.ensures, slot-length c.args.cell)

pub overflow_sub-result : goal.overflow_sub-result
overflow_sub-result c = omega (arith, blocks-least c.args.cell c.requires.0, c.from.ensures)

pub overflow_add-result : goal.overflow_add-result
overflow_add-result c =
    omega (
      arith,
      row-at-most c.args.cell (c.slot_length.result - c.args.y) 0 (omega arith) (omega arith)
          (omega (arith, c.slot_length.ensures, slot-length c.args.cell)),
      c.row_at.ensures,
    )

pub returns : goal.returns
returns c = mark-first c.args.cell c.args.y c.slot_length.ensures c.row_at.ensures c.from.ensures
