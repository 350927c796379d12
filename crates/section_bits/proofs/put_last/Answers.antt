-- One byte more.
use native.Mathlib.Omega.{arith}
use Rattle.section_bits.proofs.Gatherings.{last_on}
use Rattle.section_bits.proofs.put_last.Goals as goal

pub loop-at-preserved : goal.loop-at-preserved
loop-at-preserved c = last_on c.loop-at.invariant (omega (arith, c.loop-at.auto.part))
