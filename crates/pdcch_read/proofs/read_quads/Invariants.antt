-- `pdcch_read::read_quads` meets its contract. Invariant: the first i bytes are put. Assumes nothing.
use Rattle.pdcch_read.specs.Bytes.{Quads}
use Rattle.pdcch_read.proofs.read_quads.Given as goal

abbrev pub invariant-loop-i : goal.invariant-loop-i
invariant-loop-i l = Quads l.cell l.groups l.e l.d l.grid l.at l.initial.s l.initial.part l.i l.s l.part
