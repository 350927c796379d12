-- For inner contracts, and for read's equation, which `Reads` determines: the bits of a level pair, where it is a constellation point.
use Rattle.std.specs.Prelude.{ℕ, zero, suc, ◌+◌, ◌*◌, ◌/◌, ◌^◌, Bool, true, false, ◌&&◌, List, [], ◌∷◌, length, ℤ, pos, ◌-ℤ◌}
use Rattle.base.specs.Signs.{flip, below, eq_z}
use Rattle.base.specs.declared.Pair.{Pair}
use Rattle.modulation.specs.Symbols.{level}

-- the n bits of a level: its sign is the first, and 2 ^ (n - 1) less its size is the level of the others
unfoldable pub level_bits : ℕ → ℤ → List ℕ
level_bits zero z = []
level_bits (suc n) z = below z ∷ level_bits n (pos (2 ^ n) -ℤ flip (below z) z)

-- whether some n bits have the level z: whether those bits do
unfoldable pub is_level : ℕ → ℤ → Bool
is_level n z = eq_z (level (level_bits n z)) z

-- x0, y0, x1, y1, ..
unfoldable pub woven : List ℕ → List ℕ → List ℕ
woven [] ys = []
woven (x ∷ xs) [] = x ∷ []
woven (x ∷ xs) (y ∷ ys) = x ∷ y ∷ woven xs ys

-- the number with these digits in a base, most significant first
unfoldable pub number : ℕ → List ℕ → ℕ
number base [] = 0
number base (b ∷ bs) = b * base ^ length bs + number base bs

-- What a level pair stands for. `Word w`: the bits b0, b1, .. as the number w, most significant first.
-- `NoLevel`: no bits have the levels; a grid with such an element is "made by no payload" (13).
pub data Demapped : Type 0 where
  Word : ℕ → Demapped
  NoLevel : Demapped

abbrev pub answer_of : Bool → ℕ → Demapped
answer_of true w = Word w
answer_of false w = NoLevel

-- the word of q bits whose symbol (I, J) is: of its q places (q + 1) / 2 are even and q / 2 odd
unfoldable pub demap_of : ℕ → Pair → Demapped
demap_of q p =
    answer_of (is_level ((q + 1) / 2) p.re && is_level (q / 2) p.im)
    (number 2 (woven (level_bits ((q + 1) / 2) p.re) (level_bits (q / 2) p.im)))
