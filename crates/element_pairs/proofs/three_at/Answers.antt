-- One element as a number.
use Prim.Native.Nat.{◌+◌}
use native.Mathlib.Omega.{arith}
use Rattle.element_pairs.proofs.Puts.{one-read}
use Rattle.element_pairs.proofs.three_at.Goals as goal

pub returns : goal.returns
returns c = one-read c.two_at-a.ensures c.from.ensures (omega (arith, c.type_inv.grid (c.args.at + 2)))
