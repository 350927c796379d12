-- `phich::bit_of` meets its contract: the HI's first n places are totalled along its chips. Assumes nothing.
use Rattle.phich.specs.Spreading.{word_bit}
use Rattle.phich.proofs.Quad.{Totalled}
use Rattle.phich.proofs.bit_of.Given as goal

abbrev pub invariant-loop-n : goal.invariant-loop-n
invariant-loop-n l = Totalled l.l (word_bit l.w) l.h l.first l.t l.n
