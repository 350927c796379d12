-- `control_compare::sums_again` meets its contract: the bits from the first quads are those of the grid. Assumes nothing.
use Rattle.control.proofs.His.{his-in}
use Rattle.control_compare.proofs.AgainSums.{again}
use Rattle.control_compare.proofs.sums_again.Goals as goal

pub sums_again-requires : goal.sums_again-requires
sums_again-requires c =
    (his-in c.requires.0.cell-his c.spread_length-l.ensures, c.requires.1)

pub returns : goal.returns
returns c =
    again c.requires.0 c.first_sums.ensures c.args.r c.word-w.result c.spread_length-l.result c.word-w.ensures
    c.spread_length-l.ensures c.sums_again.ensures
