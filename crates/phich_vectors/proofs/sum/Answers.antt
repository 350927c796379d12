-- `phich_vectors::sum` meets its contract: what `ready` says is what the sums require. Assumes nothing.
use mathlib.Core.Path.{ap, ◌∙◌}
use lib.ListN.{length}
use Rattle.base.proofs.Tables.{table-length}
use Rattle.phich_vectors.proofs.sum.Goals as goal

pub quad_sums-requires : goal.quad_sums-requires
quad_sums-requires c = (c.ready.ensures c.if-ready.true, c.requires.1)

pub returns-then-ready : goal.returns-then-ready
returns-then-ready c = c.quad_sums.ensures.size

pub returns-else-ready : goal.returns-else-ready
returns-else-ready c = ap length c.requires.1 ∙ table-length 200 (λ i. 0)
