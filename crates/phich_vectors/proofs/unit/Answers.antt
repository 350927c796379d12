-- `phich_vectors::unit` is safe: what `flips` says is what the sums require. Assumes nothing.
use Rattle.phich_vectors.proofs.unit.Goals as goal

pub unit_sums-requires : goal.unit_sums-requires
unit_sums-requires c = (c.requires, c.flips.ensures c.if-flips.true)
