-- `payload::grid_length` meets its contract: no product wraps, since each factor is a byte or at most 14. Assumes nothing.
use native.Mathlib.Omega.{arith}
use Rattle.payload.proofs.Lengths.{rows-most, grid-most, grid-is}
use Rattle.payload.proofs.grid_length.Goals as goal

pub overflow_mul-result-2 : goal.overflow_mul-result-2
overflow_mul-result-2 c = omega (arith, rows-most c.wide.result c.symbols.result (omega arith) (omega arith))

pub overflow_mul-result-3 : goal.overflow_mul-result-3
overflow_mul-result-3 c = omega (arith, grid-most c.wide.result c.symbols.result c.wide-2.result (omega arith) (omega arith) (omega arith))

pub returns : goal.returns
returns c = grid-is c.args.p _ _ _ c.wide.ensures c.symbols.ensures.0 c.wide-2.ensures
