-- `data_compare::compare_single` meets its contract. Assumes nothing.
use native.Mathlib.Omega.{arith}
use Rattle.walk.proofs.Singles.{holes-total, holed-at, holes_in, six-at, six-total, doubles-in}
use Rattle.data_compare.proofs.OnePort.{one_seen}
use Rattle.data_compare.proofs.compare_single.Goals as goal

pub doubles-requires : goal.doubles-requires
doubles-requires c = doubles-in c.requires c.holes_of-h.ensures

pub returns-then-h-eq0 : goal.returns-then-h-eq0
returns-then-h-eq0 c =
    one_seen (six-total c.requires c.holes_of-h.ensures c.if-h-eq0.true) (six-at c.requires c.holes_of-h.ensures c.if-h-eq0.true) c.doubles.ensures

pub overflow_mul-h : goal.overflow_mul-h
overflow_mul-h c = omega (arith, holes-total c.args.run c.holes_of-h.ensures c.requires.short)

pub between-requires : goal.between-requires
between-requires c = holes_in c.requires c.holes_of-h.ensures c.if-h-eq0.false

pub returns : goal.returns
returns c =
    one_seen (holes-total c.args.run c.holes_of-h.ensures c.requires.short).0 (holed-at c.requires c.holes_of-h.ensures c.if-h-eq0.false) c.between.ensures
