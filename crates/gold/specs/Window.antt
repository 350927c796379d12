-- For the inner functions only: many steps at once. The register x and the 28 values after it make a window of 59 bits,
-- and every register that the next 28 steps go through is 31 bits of it.
use Rattle.std.specs.Prelude.{ℕ, ◌+◌, ◌-◌, ◌*◌, ◌/◌, ◌%◌, ◌^◌, List, [], ◌∷◌}
use Rattle.std.specs.Int.Bits.{bit_xor}

-- x, and below it the 28 low bits of y
abbrev pub window : ℕ → ℕ → ℕ
window x y = x * 2 ^ 28 + y % 2 ^ 28

-- sums of the values that z holds: bit m is the sum, mod 2, of the bits m + c - j, for the offsets j of a list
abbrev pub sums : ℕ → ℕ → List ℕ → ℕ
sums z c [] = 0
sums z c (j ∷ []) = z / 2 ^ (c - j)
sums z c (j ∷ i ∷ A) = bit_xor (sums z c (i ∷ A)) (z / 2 ^ (c - j))

-- the offsets from n of the values whose sum is x1(n + 31), x2(n + 31) and x2(n + 1600)
abbrev pub offsets1 : List ℕ
offsets1 = 0 ∷ 3 ∷ []

abbrev pub offsets2 : List ℕ
offsets2 = 0 ∷ 1 ∷ 2 ∷ 3 ∷ []

abbrev pub offsets1600 : List ℕ
offsets1600 = 23 ∷ 20 ∷ 19 ∷ 16 ∷ 12 ∷ 8 ∷ 3 ∷ 2 ∷ 1 ∷ []
