-- `data_write::fill_single` meets its contract. Assumes nothing.
use native.Mathlib.Omega.{arith}
use Rattle.walk.proofs.Singles.{holes-total, holed-at, holes_in, six-at, six-total, doubles-in}
use Rattle.data_write.proofs.OnePort.{single-filled}
use Rattle.data_write.proofs.fill_single.Goals as goal

pub overflow_mul-total : goal.overflow_mul-total
overflow_mul-total c = omega (arith, holes-total c.args.run c.holes_of-h.ensures c.requires.0.short)

pub doubles-requires : goal.doubles-requires
doubles-requires c = (
  doubles-in c.requires.0 c.holes_of-h.ensures,
  omega (arith, six-total c.requires.0 c.holes_of-h.ensures c.if-h-eq0.true, c.requires.0.index),
  c.requires.1,
)

pub overflow_add-result : goal.overflow_add-result
overflow_add-result c =
    omega (arith, holes-total c.args.run c.holes_of-h.ensures c.requires.0.short, c.requires.0.index)

pub returns-then-h-eq0 : goal.returns-then-h-eq0
returns-then-h-eq0 c =
    single-filled (six-total c.requires.0 c.holes_of-h.ensures c.if-h-eq0.true) (six-at c.requires.0 c.holes_of-h.ensures c.if-h-eq0.true)
    (holes-total c.args.run c.holes_of-h.ensures c.requires.0.short).0 c.doubles.ensures

pub between-requires : goal.between-requires
between-requires c = (
  holes_in c.requires.0 c.holes_of-h.ensures c.if-h-eq0.false,
  omega (arith, holes-total c.args.run c.holes_of-h.ensures c.requires.0.short, c.requires.0.index),
  c.requires.1,
)

pub overflow_add-result-2 : goal.overflow_add-result-2
overflow_add-result-2 c =
    omega (arith, holes-total c.args.run c.holes_of-h.ensures c.requires.0.short, c.requires.0.index)

pub returns : goal.returns
returns c =
    let e = (holes-total c.args.run c.holes_of-h.ensures c.requires.0.short).0 in
    single-filled e (holed-at c.requires.0 c.holes_of-h.ensures c.if-h-eq0.false) e c.between.ensures
