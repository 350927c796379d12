-- `data_compare::compare_run` meets its contract. Assumes nothing.
use Rattle.walk.proofs.Addresses.{open-one, open-pairs}
use Rattle.data_compare.proofs.compare_run.Goals as goal

pub compare_single-requires : goal.compare_single-requires
compare_single-requires c = open-one c.requires c.if-ports-eq1.true

pub compare_pairs-requires : goal.compare_pairs-requires
compare_pairs-requires c = open-pairs c.requires c.if-ports-eq1.false
