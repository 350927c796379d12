-- `phich_vectors::print_set` is safe: the sums have 200 bytes. Assumes nothing.
use mathlib.Core.Path.{refl}
use Rattle.base.specs.Tables.{table}
use Rattle.phich_vectors.proofs.print_set.Goals as goal

pub sum-requires : goal.sum-requires
unfolding table
sum-requires g c = (c.requires.0, refl)
