-- `control_read::read_his` meets its contract: after n HIs the section's first n bits are written. Assumes nothing.
use Rattle.control_read.proofs.Reading.{ReadStep}
use Rattle.control_read.proofs.read_his.Given as goal

abbrev pub invariant-loop-n : goal.invariant-loop-n
invariant-loop-n l = ReadStep l.fn.cell l.r l.fn.his l.plan l.grid l.part l.at l.n
