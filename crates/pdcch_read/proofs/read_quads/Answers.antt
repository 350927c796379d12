-- `pdcch_read::read_quads` meets its contract. Invariant: the first i bytes are put. Assumes nothing.
use native.Mathlib.Omega.{arith}
use Rattle.pdcch_compare.proofs.Elements.{table-entry}
use Rattle.pdcch_read.proofs.Elements.{quads-start, quads-room, quads-on, quads-end}
use Rattle.pdcch_read.proofs.read_quads.Goals as goal

pub loop-i-init : goal.loop-i-init
loop-i-init c = quads-start

pub read_entry-w-requires : goal.read_entry-w-requires
read_entry-w-requires c =
    (table-entry c.args.e c.loop-i.i c.requires.0.table-in c.loop-i-test.true c.from.ensures, c.places-places.ensures, c.requires.0.axis)

pub overflow_add-part : goal.overflow_add-part
overflow_add-part c = omega (
  arith,
  quads-room c.loop-i.invariant c.requires.1
      c.loop-i-test.true,
)

pub bounds-part-at : goal.bounds-part-at
bounds-part-at c =
    quads-room c.loop-i.invariant c.requires.1 c.loop-i-test.true

pub loop-i-preserved : goal.loop-i-preserved
loop-i-preserved c =
    quads-on c.loop-i.invariant c.requires.1 c.loop-i-test.true c.from.ensures c.read_entry-w.ensures c.unscrambled.ensures c.advance-s.ensures

pub returns : goal.returns
returns c = quads-end c.loop-i.invariant c.loop-i-test.false
