-- `phich_vectors::known` meets its contract: both tests say what `HiIn` asks. Assumes nothing.
use borrow.Author.Tests.{ltb-true}
use Rattle.phich_vectors.proofs.Seen.{hi-known}
use Rattle.phich_vectors.proofs.known.Goals as goal

pub returns-then-from-l : goal.returns-then-from-l
returns-then-from-l c = λ e. hi-known c.requires c.from.ensures c.from-then-from-l.ensures c.if-from-l.true (ltb-true _ _ e)
