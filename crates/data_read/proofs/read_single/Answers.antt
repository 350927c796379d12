-- `data_read::read_single` meets its contract. Assumes nothing.
use native.Mathlib.Omega.{arith}
use Rattle.walk.proofs.Singles.{holes-total, holed-at, holes_in, six-at, six-total, doubles-in}
use Rattle.data_read.proofs.Places.{single-read}
use Rattle.data_read.proofs.read_single.Goals as goal

pub doubles-requires : goal.doubles-requires
doubles-requires c =
    (doubles-in c.requires.0 c.requires.1, rw (six-total c.requires.0 c.requires.1 c.if-h-eq0.true) c.requires.2)

pub returns-then-h-eq0 : goal.returns-then-h-eq0
returns-then-h-eq0 c =
    single-read _ c.args.run (six-total c.requires.0 c.requires.1 c.if-h-eq0.true) (six-at c.requires.0 c.requires.1 c.if-h-eq0.true) c.doubles.ensures

pub overflow_mul-total : goal.overflow_mul-total
overflow_mul-total c =
    omega (arith, holes-total c.args.run c.requires.1 c.requires.0.short)

pub between-requires : goal.between-requires
between-requires c =
    let e = (holes-total c.args.run c.requires.1 c.requires.0.short).0 in
    (holes_in c.requires.0 c.requires.1 c.if-h-eq0.false, omega (arith, e, c.requires.0.index), rw e c.requires.2)

pub returns : goal.returns
returns c =
    single-read _ c.args.run (holes-total c.args.run c.requires.1 c.requires.0.short).0 (holed-at c.requires.0 c.requires.1 c.if-h-eq0.false) c.between.ensures
