-- `pdcch_write::put_single` meets its contract. Assumes nothing.
use Rattle.pdcch_write.proofs.Pairs.{single-put}
use Rattle.pdcch_write.proofs.put_single.Goals as goal

pub returns : goal.returns
returns c =
    single-put c.number-a.ensures.0 c.number-b.ensures.0 c.number-c.ensures.0 c.number-d.ensures.0 c.joint.ensures c.joint-2.ensures c.put_two.ensures c.put_two-2.ensures
