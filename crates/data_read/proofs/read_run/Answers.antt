-- `data_read::read_run` meets its contract. Assumes nothing.
use native.Mathlib.Omega.{arith}
use mathlib.Core.Path.{ap}
use Prim.Native.Nat.{ℕ, ◌+◌}
use Rattle.data_read.proofs.Places.{one-read}
use Rattle.walk.proofs.Singles.{holes-total}
use Rattle.walk.proofs.Addresses.{open-one, open-pairs}
use Rattle.data_read.proofs.read_run.Goals as goal

pub overflow_mul-next : goal.overflow_mul-next
overflow_mul-next c =
    omega (arith, (holes-total c.args.run c.holes_of-h.ensures c.requires.0.short).0, c.requires.0.index)

pub overflow_add-next : goal.overflow_add-next
overflow_add-next c =
    omega (arith, (holes-total c.args.run c.holes_of-h.ensures c.requires.0.short).0, c.requires.0.index)

pub read_single-requires : goal.read_single-requires
read_single-requires c =
    (open-one c.requires.0 c.if-ports-eq1.true, c.holes_of-h.ensures, c.requires.1)

pub returns-then-ports-eq1 : goal.returns-then-ports-eq1
returns-then-ports-eq1 c =
    (ap (λ (x : ℕ). c.args.j + x) (holes-total c.args.run c.holes_of-h.ensures c.requires.0.short).0, one-read c.args.places c.args.run c.if-ports-eq1.true c.read_single.ensures)

pub read_pairs-requires : goal.read_pairs-requires
read_pairs-requires c =
    (open-pairs c.requires.0 c.if-ports-eq1.false, c.requires.1)

pub returns : goal.returns
returns c =
    (ap (λ (x : ℕ). c.args.j + x) (holes-total c.args.run c.holes_of-h.ensures c.requires.0.short).0, c.read_pairs.ensures)
