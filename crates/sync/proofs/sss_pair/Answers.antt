-- `sync::sss_pair` meets its contract, for any 16-bit number. Assumes nothing.
use Rattle.sync.proofs.Triangles.{indices-are}
use Rattle.sync.proofs.sss_pair.Goals as goal

pub returns : goal.returns
returns c = let t = c.triangle in
    indices-are c.args.d t.result c.triangle-2.result t.ensures c.triangle-2.ensures
