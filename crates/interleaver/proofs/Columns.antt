-- The order of the columns: each of the 32 is read once. Assumes nothing.
use Prim.Native.Nat.{ℕ, ◌+◌, ◌%◌, ◌<◌}
use mathlib.Core.Path.{◌≡◌}
use native.Mathlib.Omega.{arith}
use lib.Dec.{eqb, eqb→eq}
use Rattle.base.proofs.Computed.{below_at}
use Rattle.interleaver.specs.Matrix.{reversed, column_at, order_of}

reversed-small : (x : ℕ) → reversed x < 32
unfolding reversed
reversed-small x = omega arith

pub column-small : (j : ℕ) → column_at j < 32
unfolding column_at
column-small j = reversed-small ((j + 16) % 32)

pub order_small : (c : ℕ) → order_of c < 32
unfolding order_of
order_small c = omega arith

pub order-column : (j : ℕ) → j < 32 → order_of (column_at j) ≡ j
unfolding order_of column_at reversed
order-column j h = eqb→eq (order_of (column_at j)) j (below_at (λ (k : ℕ). eqb (order_of (column_at k)) k) 32 tt j h)

pub column-order : (c : ℕ) → c < 32 → column_at (order_of c) ≡ c
unfolding order_of column_at reversed
column-order c h = eqb→eq (column_at (order_of c)) c (below_at (λ (k : ℕ). eqb (column_at (order_of k)) k) 32 tt c h)
