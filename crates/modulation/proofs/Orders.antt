-- The orders one by one. Assumes nothing.
use Prim.Native.Nat.{ℕ, zero, suc, ◌<◌}
use native.Mathlib.Omega.{arith}
use Rattle.modulation.specs.Symbols.{Order, unit_in, unit_of}

-- what holds of 2, 4, 6 and 8 bits holds of every order
pub by_order : (P : ℕ → Type 0) → P 2 → P 4 → P 6 → P 8 → (q : ℕ) → Order q → P q
by_order P a b c d zero o = absurd (omega (arith, o))
by_order P a b c d (suc zero) o = absurd (omega (arith, o))
by_order P a b c d (suc (suc zero)) o = a
by_order P a b c d (suc (suc (suc zero))) o = absurd (omega (arith, o))
by_order P a b c d (suc (suc (suc (suc zero)))) o = b
by_order P a b c d (suc (suc (suc (suc (suc zero))))) o = absurd (omega (arith, o))
by_order P a b c d (suc (suc (suc (suc (suc (suc zero)))))) o = c
by_order P a b c d (suc (suc (suc (suc (suc (suc (suc zero))))))) o = absurd (omega (arith, o))
by_order P a b c d (suc (suc (suc (suc (suc (suc (suc (suc zero)))))))) o = d
by_order P a b c d (suc (suc (suc (suc (suc (suc (suc (suc (suc q))))))))) o = absurd (omega (arith, o))

-- the unit of an order is not 0
pub unit-some : (q : ℕ) → Order q → 0 < unit_of q
unfolding unit_of unit_in
unit-some = by_order (λ (q : ℕ). 0 < unit_of q) (omega arith) (omega arith) (omega arith) (omega arith)
