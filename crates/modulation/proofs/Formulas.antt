-- Document 01's formulas and document 02's, from the one recursion. Assumes nothing.
use Prim.Native.Nat.{ℕ}
use mathlib.Core.Path.{◌≡◌, refl}
use mathlib.Core.List.{[], ◌∷◌}
use lib.IntN.{pos, ◌-ℤ◌}
use Rattle.base.specs.Signs.{flip}
use Rattle.modulation.specs.Symbols.{level}

-- (1 - 2 b0, 1 - 2 b1)
pub qpsk : (a : ℕ) → level (a ∷ []) ≡ flip a (pos 1)
unfolding level
qpsk a = refl

-- (1 - 2 b0)(2 - (1 - 2 b2))
pub qam16 : (a b : ℕ) → level (a ∷ b ∷ []) ≡ flip a (pos 2 -ℤ flip b (pos 1))
unfolding level
qam16 a b = refl

-- (1 - 2 b0)(4 - (1 - 2 b2)(2 - (1 - 2 b4)))
pub qam64 : (a b c : ℕ) → level (a ∷ b ∷ c ∷ []) ≡ flip a (pos 4 -ℤ flip b (pos 2 -ℤ flip c (pos 1)))
unfolding level
qam64 a b c = refl

-- (1 - 2 b0)(8 - (1 - 2 b2)(4 - (1 - 2 b4)(2 - (1 - 2 b6))))
pub qam256 : (a b c d : ℕ) → level (a ∷ b ∷ c ∷ d ∷ []) ≡ flip a (pos 8 -ℤ flip b (pos 4 -ℤ flip c (pos 2 -ℤ flip d (pos 1))))
unfolding level
qam256 a b c d = refl
