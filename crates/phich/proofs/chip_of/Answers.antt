-- `phich::chip_of` meets its contract, by the length. Assumes nothing.
use Rattle.phich.proofs.Lengths.{chip-four, chip-two}
use Rattle.phich.proofs.chip_of.Goals as goal

pub returns-then-l-eq4 : goal.returns-then-l-eq4
returns-then-l-eq4 c = chip-four c.args.l c.requires.0 c.args.i c.requires.1 c.if-l-eq4.true

pub returns-else-l-eq4 : goal.returns-else-l-eq4
returns-else-l-eq4 c = chip-two c.args.l c.requires.0 c.args.i c.requires.1 c.if-l-eq4.false
