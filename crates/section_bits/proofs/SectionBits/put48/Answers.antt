-- 48 bits more, without the sequence.
use Rattle.section_bits.proofs.Gatherings.{puts48}
use Rattle.section_bits.proofs.SectionBits.put48.Goals as goal

pub returns : goal.returns
returns c =
    puts48 c.args.v c.args.self.now c.args.part.now c.requires c.word48.ensures c.advance48-self.ensures
    c.put_four.ensures c.put_two.ensures
