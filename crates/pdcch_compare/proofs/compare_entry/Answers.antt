-- `pdcch_compare::compare_entry` meets its contract. Assumes nothing.
use Rattle.pdcch_compare.proofs.Pairs.{entry-quad, entry_seen}
use Rattle.pdcch_compare.proofs.compare_entry.Goals as goal

pub compare_quad-requires : goal.compare_quad-requires
compare_quad-requires c =
    entry-quad c.requires.0 c.requires.1 c.gap_of-gap.ensures

pub returns : goal.returns
returns c =
    entry_seen c.requires.1 c.gap_of-gap.ensures c.compare_quad.ensures
