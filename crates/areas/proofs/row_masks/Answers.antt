-- The bytes of all symbols. The loop's invariant: those of the symbols below s are set.
use native.Mathlib.Omega.{arith}
use Rattle.areas.proofs.Tables.{masks-none, masks-on, masks-all}
use Rattle.areas.proofs.row_masks.Goals as goal

pub loop-s-init : goal.loop-s-init
loop-s-init c = masks-none c.requires

pub loop-s-preserved : goal.loop-s-preserved
loop-s-preserved c = masks-on c.loop-s.invariant (omega (arith, c.loop-s.invariant.size)) c.row_byte.ensures

pub returns : goal.returns
returns c = masks-all c.loop-s.invariant (omega (arith, c.loop-s.invariant.size))
