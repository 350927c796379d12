-- `pdcch_write::put_two` meets its contract. Assumes nothing.
use Rattle.pdcch_write.proofs.Pairs.{two-apart, two-beside}
use Rattle.pdcch_write.proofs.put_two.Goals as goal

pub returns-then-gap-eq2 : goal.returns-then-gap-eq2
returns-then-gap-eq2 c =
    two-apart c.if-gap-eq2.true c.put_elements.ensures

pub returns : goal.returns
returns c =
    two-beside c.requires c.if-gap-eq2.false c.put_elements-2.ensures
