-- For the inner contracts and loops only: the elements of an order's symbols as numbers, in a table.
use Rattle.std.specs.Prelude.{ℕ, ◌+◌, ◌-◌, ◌*◌, ◌%◌, ◌^◌, ◌≤◌, ◌<◌, ◌≡◌, List, length, get_or, set}
use Rattle.base.specs.declared.Pair.{Pair}
use Rattle.base.specs.Bytes.{byte_of}
use Rattle.modulation.specs.Symbols.{modulation_symbol}

-- three bytes as a number, the first lowest
abbrev pub three_bytes : ℕ → ℕ → ℕ → ℕ
three_bytes b i j = b + 256 * i + 65536 * j

-- the element of a pair of levels as a number: the unit's byte, I, J
unfoldable pub element_number : ℕ → Pair → ℕ
element_number b d = three_bytes b (byte_of d.re) (byte_of d.im)

-- h less a byte, as a byte
abbrev pub byte_less : ℕ → ℕ → ℕ
byte_less h b = (h + 256 - b) % 256

-- entries of the words x, and of 1, 2 and 3 in front of it, where n words stand before each
abbrev pub four_set : ℕ → ℕ → ℕ → ℕ → ℕ → ℕ → List ℕ → List ℕ
four_set n x a b c d t = set (set (set (set t x a) (n + x) b) (2 * n + x) c) (3 * n + x) d

-- entries 0, .., n - 1 are the elements of those words' symbols, of q bits each
pub record Entries (q b n : ℕ) (t : List ℕ) : Type 0 where
  pub size : length t ≡ 256
  pub entry : (x : ℕ) → x < n → get_or t x 0 ≡ element_number b (modulation_symbol q x)

-- THE TABLE of an order: a symbol depends on the q lowest bits of a word only, so that entries repeat
abbrev pub Elements : ℕ → ℕ → List ℕ → Type 0
Elements q b t = Entries q b 256 t

-- entries of k bits, of which the first x are replaced by those of two bits more in front
pub record Widened (k b x : ℕ) (t : List ℕ) : Type 0 where
  pub size : length t ≡ 256
  pub left : (y : ℕ) → x ≤ y → y < 2 ^ k → get_or t y 0 ≡ element_number b (modulation_symbol k y)
  pub done : (c y : ℕ) → c < 4 → y < x → get_or t (c * 2 ^ k + y) 0 ≡ element_number b (modulation_symbol (k + 2) (c * 2 ^ k + y))
