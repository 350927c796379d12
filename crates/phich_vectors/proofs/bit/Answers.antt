-- `phich_vectors::bit` is safe: an HI that is known has a bit. Assumes nothing.
use Rattle.phich_vectors.proofs.bit.Goals as goal

pub bit_of-requires : goal.bit_of-requires
bit_of-requires c = c.known.ensures c.if-known.true
