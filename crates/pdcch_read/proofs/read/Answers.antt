-- `pdcch_read::read` meets its contract. Assumes nothing.
use Rattle.pdcch_read.proofs.Whole.{given-in, block_read}
use Rattle.pdcch_read.proofs.read.Goals as goal

pub read_given-requires : goal.read_given-requires
read_given-requires c = given-in c.requires

pub returns : goal.returns
returns c =
    block_read c.requires c.read_given.ensures
