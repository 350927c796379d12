-- The bits that are still held, as the last bytes.
use Rattle.section_bits.proofs.Gatherings.{none-held, last-put}
use Rattle.section_bits.proofs.SectionBits.flush.Goals as goal

pub returns-then-got-eq0 : goal.returns-then-got-eq0
returns-then-got-eq0 c = none-held c.requires c.if-got-eq0.true

pub returns : goal.returns
returns c =
    last-put c.requires c.word48.ensures c.power.ensures c.put_last.ensures
