-- `data_write::fill_run` meets its contract. Assumes nothing.
use Rattle.walk.proofs.Addresses.{open-one, open-pairs}
use Rattle.data_write.proofs.Areas.{one-sending, pairs-sending, one-filled, pairs-filled}
use Rattle.data_write.proofs.fill_run.Goals as goal

pub fill_single-requires : goal.fill_single-requires
fill_single-requires c =
    (open-one c.requires.0 c.if-ports-eq1.true, one-sending c.requires.1 c.if-ports-eq1.true)

pub returns-then-ports-eq1 : goal.returns-then-ports-eq1
returns-then-ports-eq1 c = one-filled c.if-ports-eq1.true c.fill_single.ensures

pub fill_pairs-requires : goal.fill_pairs-requires
fill_pairs-requires c =
    (open-pairs c.requires.0 c.if-ports-eq1.false, pairs-sending c.requires.1 c.if-ports-eq1.false)

pub returns : goal.returns
returns c = pairs-filled c.if-ports-eq1.false c.fill_pairs.ensures
