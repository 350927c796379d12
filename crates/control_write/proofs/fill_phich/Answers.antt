-- `control_write::fill_phich` meets its contract: the sums by the word's bits are those by the pair's. Assumes nothing.
use native.Mathlib.Omega.{arith}
use Rattle.grid.proofs.Accumulating.{writing}
use Rattle.control.proofs.Sums.{length_most, after-three, part-ready, unit-ready, unit-done}
use Rattle.control_write.proofs.fill_phich.Goals as goal

pub unit_sums-requires : goal.unit_sums-requires
unit_sums-requires c = part-ready c.requires c.spread_length-l.ensures

pub put_unit-requires : goal.put_unit-requires
put_unit-requires c =
    (unit-ready c.requires c.spread_length-l.ensures c.word-w.result c.unit_sums.ensures, c.requires.room)

pub overflow_mul-l : goal.overflow_mul-l
overflow_mul-l c =
    omega (arith, length_most c.args.cell c.spread_length-l.ensures)

pub returns : goal.returns
returns c =
    let is = c.spread_length-l.ensures in (
      unit-done c.requires is c.word-w.result c.unit_sums.ensures c.args.r c.word-w.ensures
          (writing c.args.grid.now) c.put_unit.ensures,
      after-three c.args.cell c.args.r is c.skip.ensures,
    )
