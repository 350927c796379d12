-- `data_read::four` meets its contract. Assumes nothing.
use Prim.Native.Nat.{◌*◌}
use native.Mathlib.Omega.{arith}
use Rattle.data_read.proofs.Words.{joined}
use Rattle.data_read.proofs.four.Goals as goal

pub overflow_add-result : goal.overflow_add-result
overflow_add-result c =
    let l = joined {n = 2 * c.args.q} {m = 4 * c.args.q} (omega (arith, c.requires.order)) (omega arith) c.two_symbols.ensures.0 c.two_symbols-2.ensures.0
    (omega (arith, c.two_symbols.ensures)) (omega (arith, c.two_symbols-2.ensures)) in
    record { fits = l.2 }

pub returns : goal.returns
returns c =
    let l = joined {n = 2 * c.args.q} {m = 4 * c.args.q} (omega (arith, c.requires.order)) (omega arith) c.two_symbols.ensures.0 c.two_symbols-2.ensures.0
    (omega (arith, c.two_symbols.ensures)) (omega (arith, c.two_symbols-2.ensures)) in
    (l.0, l.1)
