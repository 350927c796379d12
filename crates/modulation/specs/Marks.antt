-- For inner contracts only: levels and symbols that some bits have, and what the code holds of a level for the way back.
use Rattle.std.specs.Prelude.{ℕ, ◌/◌, Bool, cond, ◌&&◌, ℤ}
use Rattle.base.specs.declared.Pair.{Pair}
use Rattle.modulation.specs.Demapping.{level_bits, is_level, number}

-- the n bits of a level at every second place of a word, so that the word of a pair is twice the mark of I and the mark of J;
-- 255 where no bits have the level
unfoldable pub mark_of : ℕ → ℤ → ℕ
mark_of n z = cond (is_level n z) (number 4 (level_bits n z)) 255

-- the symbol is a constellation point of q bits
unfoldable pub is_symbol : ℕ → Pair → Bool
is_symbol q d = is_level (q / 2) d.re && is_level (q / 2) d.im
