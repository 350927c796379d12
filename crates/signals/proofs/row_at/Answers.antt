-- `signals::row_at` meets its contract: no product wraps, since each factor is a byte or at most 14. Assumes nothing.
use Prim.Native.Nat.{◌+◌, ◌*◌}
use native.Mathlib.Omega.{arith}
use Rattle.signals.proofs.Numbers.{rows-most, row-most, row_is}
use Rattle.signals.proofs.row_at.Goals as goal

pub overflow_mul-rows : goal.overflow_mul-rows
overflow_mul-rows c = omega (arith, rows-most c.from.result c.symbols.result c.args.s (omega arith) (omega arith) c.requires)

pub overflow_add-rows : goal.overflow_add-rows
overflow_add-rows c = omega (arith, rows-most c.from.result c.symbols.result c.args.s (omega arith) (omega arith) c.requires)

pub overflow_mul-result : goal.overflow_mul-result
overflow_mul-result c = let q = c.from.result in
    let rows = c.symbols.result in
    let a = c.args in
    let h = rows-most q rows a.s (omega arith) (omega arith) c.requires in
    omega (arith, row-most (q * rows + a.s) c.carriers.result h (omega arith))

pub returns : goal.returns
returns c =
    row_is c.args.cell c.args.s c.args.port c.from.ensures c.symbols.ensures.0 c.carriers.ensures
