-- `control_compare::compare_phich` meets its contract: the sums by the word's bits are those by the pair's. Assumes nothing.
use Rattle.compare.proofs.Accumulating.{comparing}
use Rattle.control.proofs.Sums.{part-ready, unit-ready, unit-done}
use Rattle.control_compare.proofs.compare_phich.Goals as goal

pub unit_sums-requires : goal.unit_sums-requires
unit_sums-requires c = part-ready c.requires c.spread_length-l.ensures

pub compare_sums-requires : goal.compare_sums-requires
compare_sums-requires c =
    (unit-ready c.requires c.spread_length-l.ensures c.word-w.result c.unit_sums.ensures, c.requires.room)

pub returns : goal.returns
returns c =
    unit-done c.requires c.spread_length-l.ensures c.word-w.result c.unit_sums.ensures c.args.r c.word-w.ensures
    (comparing c.args.grid.now) c.compare_sums.ensures
