-- All 256 entries, by repetition. The invariant: the first x entries are those of their words.
use native.Mathlib.Omega.{arith}
use Rattle.constellation.proofs.Quarters.{entries-first, entries-more}
use Rattle.constellation.proofs.set_elements.Goals as goal

pub loop-x-init : goal.loop-x-init
loop-x-init c = (entries-first c.set_words.ensures (omega (arith, c.power-n.ensures)), omega arith, c.power-n.ensures.1)

pub loop-x-preserved : goal.loop-x-preserved
loop-x-preserved c =
    (entries-more c.loop-x.invariant.0 c.power-n.ensures.0 c.loop-x.invariant.1 c.loop-x-test.true, omega arith, omega arith)

pub returns : goal.returns
returns c = entries-first c.loop-x.invariant.0 (omega arith)
