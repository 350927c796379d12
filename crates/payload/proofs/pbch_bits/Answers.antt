-- `payload::pbch_bits` meets its contract. Assumes nothing.
use Prim.Native.Nat.{ℕ, ◌*◌}
use mathlib.Core.Path.{ap, ◌∙◌}
use native.Mathlib.Omega.{arith}
use Rattle.payload.proofs.Lengths.{pbch-most, pbch-twice}
use Rattle.payload.proofs.pbch_bits.Goals as goal

pub overflow_mul-result : goal.overflow_mul-result
overflow_mul-result c = let a = c.args in omega (arith, c.pbch_count.ensures, pbch-twice a.c a.f, pbch-most a.c a.f)

pub returns : goal.returns
returns c = ap (λ (n : ℕ). 2 * n) c.pbch_count.ensures ∙ pbch-twice c.args.c c.args.f
