-- A section with no bits yet.
use Rattle.section_bits.proofs.Gatherings.{begun}
use Rattle.section_bits.proofs.SectionBits.begin.Goals as goal

pub returns : goal.returns
returns c = begun c.args.r c.widen.ensures
