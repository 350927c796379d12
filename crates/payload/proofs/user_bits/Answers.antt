-- `payload::user_bits` meets its contract. Assumes nothing.
use native.Mathlib.Omega.{arith}
use Rattle.payload.proofs.Lengths.{bits_fit, bits-found}
use Rattle.payload.proofs.user_bits.Goals as goal

pub overflow_mul-result : goal.overflow_mul-result
overflow_mul-result c = let a = c.args in
    let given = c.requires in
    let q = c.wide in
    let n = c.user_count in
    omega (arith, bits_fit a.c a.shape a.u given (omega arith) (omega arith), bits-found a.c a.shape a.u q.result n.result q.ensures n.ensures)

pub returns : goal.returns
returns c = let a = c.args in
    bits-found a.c a.shape a.u _ _ c.wide.ensures c.user_count.ensures
