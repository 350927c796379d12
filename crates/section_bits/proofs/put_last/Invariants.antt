-- The bytes before `at` are put.
use Rattle.section_bits.specs.Gathering.{LastBytes}
use Rattle.section_bits.proofs.put_last.Given as goal

abbrev pub invariant-loop-at : goal.invariant-loop-at
invariant-loop-at l = LastBytes l.bits l.start l.initial.part l.v l.at l.part
