-- `verify::compare_pbch` meets its contract. Assumes nothing.
use Rattle.verify.proofs.Channels.{pbch-blocks, pbch-ready}
use Rattle.verify.proofs.compare_pbch.Goals as goal

pub pbch_area-area-requires : goal.pbch_area-area-requires
pbch_area-area-requires c = pbch-blocks c.requires.1

pub compare_area-requires : goal.compare_area-requires
compare_area-requires c =
    pbch-ready c.requires.1 c.pbch_area-area.ensures c.row_masks.ensures

pub returns : goal.returns
returns c = rw c.pbch_area-area.ensures at c.compare_area.ensures
