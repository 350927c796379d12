-- What the promises cite: sums over the numbers below a bound and over a list. Nothing here is about owners.
use Rattle.std.specs.Prelude.{ℕ, zero, suc, ◌+◌, List, [], ◌∷◌}

-- f 0 + f 1 + .. + f (n - 1)
unfoldable pub sum_to : ℕ → (ℕ → ℕ) → ℕ
sum_to zero f = 0
sum_to (suc n) f = sum_to n f + f n

unfoldable pub sum_of : {A : Type 0} → List A → (A → ℕ) → ℕ
sum_of [] f = 0
sum_of (a ∷ rest) f = f a + sum_of rest f
