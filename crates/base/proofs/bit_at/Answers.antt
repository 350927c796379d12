-- `base::bit_at` meets its contract. Assumes nothing.
use mathlib.Core.Path.{refl}
use native.Mathlib.Nat.{zero-div}
use lib.ListN.{get_or-eq_default}
use Rattle.base.specs.Bits.{bit_at}
use Rattle.base.proofs.bit_at.Goals as goal

pub returns-then-at-s : goal.returns-then-at-s
unfolding bit_at
returns-then-at-s c = refl

pub returns : goal.returns
unfolding bit_at
returns c = simp (get_or-eq_default c.args.s.now 0 c.if-at-s.false, zero-div)
