-- `base::level_of` meets its contract: both values of the bit, computed. Assumes nothing.
use Prim.Native.Nat.{ℕ, zero, suc, ◌%◌, ◌<◌}
use mathlib.Core.Path.{◌≡◌, refl}
use native.Mathlib.Omega.{arith}
use lib.IntN.{pos, ◌*ℤ◌, ◌-ℤ◌}
use mir.Syntax.{w8}
use mir.Val.{SFits, to_z, of_z}
use Rattle.base.specs.Signs.{flip}
use Rattle.base.proofs.Fits.{fits-abs}
use Rattle.base.proofs.level_of.Goals as goal

by_bit : (P : ℕ → Type 0) → P 0 → P 1 → (x : ℕ) → P (x % 2)
by_bit P p q x = pick (x % 2) (omega arith)
  where
    pick : (b : ℕ) → b < 2 → P b
    pick zero l = p
    pick (suc zero) l = q
    pick (suc (suc b)) l = absurd (omega arith)

pub overflow_mul-result : goal.overflow_mul-result
overflow_mul-result c = by_bit (λ (b : ℕ). SFits w8 (pos 2 *ℤ to_z w8 b)) (fits-abs w8 _ (omega arith)) (fits-abs w8 _ (omega arith)) c.args.bit

pub overflow_sub-result : goal.overflow_sub-result
overflow_sub-result c = by_bit (λ (b : ℕ). SFits w8 (pos 1 -ℤ to_z w8 (of_z w8 (pos 2 *ℤ to_z w8 b)))) (fits-abs w8 _ (omega arith)) (fits-abs w8 _ (omega arith)) c.args.bit

pub returns : goal.returns
returns c = by_bit (λ (b : ℕ). to_z w8 (of_z w8 (pos 1 -ℤ to_z w8 (of_z w8 (pos 2 *ℤ to_z w8 b)))) ≡ flip b (pos 1)) refl refl c.args.bit
