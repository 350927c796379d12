-- For the inner contracts and loops only: the way back from an element's levels to the bits of its symbol.
use Rattle.std.specs.Prelude.{ℕ, ◌+◌, ◌*◌, ◌/◌, ◌%◌, ◌<◌, ◌≡◌, cond, List, ltb, length, get_or}
use Rattle.base.specs.Bytes.{signed_of}
use Rattle.modulation.specs.Demapping.{level_bits, number}

-- the n bits of a byte's level at every second place of a word
unfoldable pub axis_of : ℕ → ℕ → ℕ
axis_of n b = number 4 (level_bits n (signed_of b))

-- the byte of a level from -16 to 15 by its five lowest bits
abbrev pub byte_from : ℕ → ℕ
byte_from x = cond (ltb x 16) x (x + 224)

-- entries 0, .., m - 1 are the bits of those levels, n to a level
pub record AxisEntries (n m : ℕ) (d : List ℕ) : Type 0 where
  pub size : length d ≡ 32
  pub entry : (x : ℕ) → x < m → get_or d x 0 ≡ axis_of n (byte_from x)

-- THE TABLE of an order of q bits
abbrev pub Axis : ℕ → List ℕ → Type 0
Axis q d = AxisEntries (q / 2) 32 d

-- the word of an element: twice the bits of I, and those of J
abbrev pub word_of : List ℕ → ℕ → ℕ
word_of d v = 2 * get_or d (v / 256 % 32) 0 + get_or d (v / 65536 % 32) 0
