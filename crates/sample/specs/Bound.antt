-- What the promises cite: gains and samples as whole numbers and their squares. Quoted words are document 01's, under Samples.
-- `HasValue x s a c` says that x is finite, has the sign s (true: below 0), and is exactly a / c in size.
use Rattle.std.specs.Prelude.{ℕ, ◌+◌, ◌-◌, ◌*◌, ◌^◌, ◌≤◌, ◌<◌, ◌≡◌, Bool, false, T, ℤ, nat_abs, Float}
use Rattle.std.specs.Float.{binary32}
use Rattle.std.specs.Float.Ieee.{fits}
use Rattle.std.specs.Float.Ieee.Exact.{HasValue}
use Rattle.std.specs.Float.Ieee.Positive.{positive}
use Rattle.base.specs.Signs.{negative}

-- "For level I and exact sample a/2^t (a whole, with the sign of I): (2^22−1)²I²2^(2t) ≤ 2^44·u·a² ≤ (2^22+1)²I²2^(2t)";
-- z is the level I, s the sign and a the size of the sample's whole number
pub record WithinBound (u : ℕ) (z : ℤ) (s : Bool) (a t : ℕ) : Type 0 where
  pub sign : s ≡ negative z
  pub least : (2 ^ 22 - 1) ^ 2 * nat_abs z ^ 2 * 2 ^ (2 * t) ≤ 2 ^ 44 * u * a ^ 2
  pub most : 2 ^ 44 * u * a ^ 2 ≤ (2 ^ 22 + 1) ^ 2 * nat_abs z ^ 2 * 2 ^ (2 * t)

-- the float x is some a / 2 ^ t, and however it is written so, that is within the bound
pub record Close (u : ℕ) (z : ℤ) (x : Float) : Type 0 where
  pub written : (s : Bool) × (a : ℕ) × (t : ℕ) × HasValue x s a (2 ^ t)
  pub within : (s : Bool) (a t : ℕ) → HasValue x s a (2 ^ t) → WithinBound u z s a t

-- "the gain is the f32 nearest 1/√u, shown by whole-number squares". With g = a / 2 ^ t and y = b / 2 ^ t, y is not nearer to 1 / √u than g:
-- where y is below g, their middle is at most 1 / √u, and where it is above, at least.
pub record NoNearer (u a b t : ℕ) : Type 0 where
  pub below : b < a → u * (a + b) ^ 2 ≤ 4 * 2 ^ (2 * t)
  pub above : a < b → 4 * 2 ^ (2 * t) ≤ u * (a + b) ^ 2

-- g is an f32, finite and above 0, and no f32 that is 0 or more lies nearer to 1 / √u. (One below 0 is further than 0.)
pub record Nearest (u : ℕ) (g : Float) : Type 0 where
  pub is-f32 : T (fits binary32 g)
  pub number : T (positive g)
  pub none-nearer : (y : Float) → T (fits binary32 y) → (a b t : ℕ) → HasValue g false a (2 ^ t) → HasValue y false b (2 ^ t) → NoNearer u a b t
