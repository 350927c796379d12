-- `phich::unit_sums` meets its contract: the places below i have their sums. Assumes nothing.
use Rattle.phich.specs.Spreading.{word_bit}
use Rattle.phich.proofs.Places.{Filled}
use Rattle.phich.proofs.unit_sums.Given as goal

abbrev pub invariant-loop-i : goal.invariant-loop-i
invariant-loop-i l = Filled l.l (word_bit l.w) l.part l.sums l.i
