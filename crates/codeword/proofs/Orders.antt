-- Bits in groups of whole symbols, at each order. Assumes nothing.
use mathlib.Core.Path.{◌≡◌, refl}
use Prim.Native.Nat.{ℕ, ◌*◌, ◌^◌, ◌≤◌}
use native.Mathlib.Nat.{mul-le-mul}
use native.Mathlib.Omega.{arith}
use Rattle.modulation.specs.Symbols.{Order}
use Rattle.modulation.proofs.Orders.{by_order}
use Rattle.codeword.specs.Bits48.{Groups}

-- 24 bits, and so 48, are whole symbols of each order
whole : (q : ℕ) → Order q → (n : ℕ) × (q * n ≡ 24)
whole = by_order (λ (q : ℕ). (n : ℕ) × (q * n ≡ 24)) (12, refl) (6, refl) (4, refl) (3, refl)

-- ---- symbols one by one, one or two at a time, and in pairs, one or two at a time
module _ (q : ℕ) (o : Order q) where
  pub single-groups : Groups q q
  single-groups = record { words = 2 * (whole q o).0; divides = omega (arith, (whole q o).1); before = 0; size = omega arith; few = omega arith; most = omega (arith, o) }

  pub double-groups : Groups q (2 * q)
  double-groups = record { words = 2 * (whole q o).0; divides = omega (arith, (whole q o).1); before = 1; size = omega arith; few = omega (arith, o); most = omega (arith, o) }

  pub pair-groups : Groups (2 * q) (2 * q)
  pair-groups = record { words = (whole q o).0; divides = omega (arith, (whole q o).1); before = 0; size = omega arith; few = omega arith; most = omega (arith, o) }

  pub quad-groups : Groups (2 * q) (4 * q)
  quad-groups = record { words = (whole q o).0; divides = omega (arith, (whole q o).1); before = 1; size = omega arith; few = omega (arith, o); most = omega (arith, o) }

  -- the bits of 16,800 symbols are early
  pub bits-early : (j : ℕ) → j ≤ 16800 → q * j ≤ 2 ^ 32
  bits-early j l = omega (arith, mul-le-mul {n₂ = 8} {m₂ = 16800} o.2 l)
