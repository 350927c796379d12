-- `phich::sequence` meets its contract: the code's tables are those of the specification. Assumes nothing.
use Rattle.phich.specs.Spreading.{normal, extended}
use Rattle.phich.proofs.Parts.{normal-row, extended_row}
use Rattle.phich.proofs.sequence.Goals as goal

pub returns-then-l-eq4 : goal.returns-then-l-eq4
unfolding normal
returns-then-l-eq4 c = normal-row c.args.l c.args.q c.if-l-eq4.true

pub returns : goal.returns
unfolding extended
returns c = extended_row c.args.l c.args.q c.requires.0 c.if-l-eq4.false
