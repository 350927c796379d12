-- `codeword::last_bits` meets its contract. The loop has read i bytes. Assumes nothing.
use Rattle.codeword.proofs.Words.{Read}
use Rattle.codeword.proofs.last_bits.Given as goal

abbrev pub invariant-loop-i : goal.invariant-loop-i
invariant-loop-i l = Read l.bits l.from l.i l.w
