-- The partners of two elements.
use Prim.Native.Nat.{ℕ}
use mathlib.Core.Path.{ap}
use lib.Bits.{bit_xor}
use Rattle.constellation.specs.Pairs.{minus_bits}
use Rattle.constellation.proofs.partners.Goals as goal

pub returns : goal.returns
returns c = ap (λ (x : ℕ). bit_xor x minus_bits) c.joint.ensures
