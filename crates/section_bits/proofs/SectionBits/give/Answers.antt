-- Bits that are held, and 48 of them put.
use mathlib.Core.Path.{refl}
use native.Mathlib.Omega.{arith}
use Rattle.section_bits.proofs.Packing.{shifted_fits}
use Rattle.section_bits.proofs.Gatherings.{given-held, given-room, given-put}
use Rattle.section_bits.proofs.SectionBits.give.Goals as goal

pub overflow_add-word : goal.overflow_add-word
overflow_add-word c =
    record { fits = shifted_fits c.args.self.now.word c.args.v c.args.n (omega (arith, c.requires.most)) c.requires.value }

pub returns-then-got-lt48 : goal.returns-then-got-lt48
returns-then-got-lt48 c = given-held c.requires refl c.if-got-lt48.true

pub put48-requires : goal.put48-requires
put48-requires c = given-room c.requires refl c.if-got-lt48.false

pub returns : goal.returns
returns c =
    given-put c.requires refl c.if-got-lt48.false c.put48.ensures
