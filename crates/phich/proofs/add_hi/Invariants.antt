-- `phich::add_hi` meets its contract: the HI's first n chips are added. Assumes nothing.
use Rattle.phich.proofs.Own.{Added}
use Rattle.phich.proofs.add_hi.Given as goal

abbrev pub invariant-loop-n : goal.invariant-loop-n
invariant-loop-n l = Added l.l l.h l.b l.n l.initial.sums l.sums
