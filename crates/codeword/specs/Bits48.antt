-- For the inner contracts and loops only: a channel's scrambled bits taken 48 at a time, from a state that is lent.
use Rattle.std.specs.Prelude.{ℕ, ◌+◌, ◌-◌, ◌*◌, ◌/◌, ◌%◌, ◌^◌, ◌≤◌, ◌≡◌, List, length}
use Rattle.base.specs.Bits.{bit_at}
use Rattle.gold.specs.declared.Registers.{Registers}
use Rattle.gold.specs.Sequence.{binary}
use Rattle.gold.specs.Steps.{after}
use Rattle.gold.specs.Wide.{wide_of}
use Rattle.codeword.specs.declared.Rest.{Rest}
use Rattle.codeword.specs.declared.ScrambledBits.{ScrambledBits}
use Rattle.codeword.specs.Codewords.{scrambled}
use Rattle.codeword.specs.Streams.{outputs}

-- the bits of a slice, scrambled by what the pair r gives
abbrev pub scrambled_bits : List ℕ → Registers → ℕ → ℕ
scrambled_bits bits r = scrambled (bit_at bits) (outputs r)

-- ---- words of six bytes, 0 past the end
-- where the last begins that has two bytes or more, of n
abbrev pub last_at : ℕ → ℕ
last_at n = (n - 2) / 6 * 6

unfoldable pub last_word : List ℕ → ℕ
last_word bits = binary (bit_at bits) (8 * last_at (length bits)) 48

-- what `bits48` gives
pub record WordAt (bits : List ℕ) (at last w : ℕ) : Type 0 where
  pub word : at % 6 ≡ 0 → last ≡ last_word bits → w ≡ binary (bit_at bits) (8 * at) 48

-- ---- the state: of a slice's bits, scrambled, word k is the last that was given
pub record Due (bits : List ℕ) (r : Registers) (k : ℕ) (st : ScrambledBits) : Type 0 where
  pub pair : st.wide ≡ wide_of (after r (48 * k))
  pub byte : st.at ≡ 6 * (k + 1)
  pub last : st.last ≡ last_word bits

-- what `next48` gives: the bits of the word after it, and the state
pub record Next48 (bits : List ℕ) (st : ScrambledBits) (v : ℕ) (st' : ScrambledBits) : Type 0 where
  pub goes : (r : Registers) (k : ℕ) → Due bits r k st → (v ≡ binary (scrambled_bits bits r) (48 * (k + 1)) 48) × Due bits r (k + 1) st'

-- ---- n bits were taken, the word's lowest `left` come next, and then those that the state gives
pub record WordReady (bits : List ℕ) (r : Registers) (n : ℕ) (st : ScrambledBits) (word left : ℕ) : Type 0 where
  pub number : ℕ
  pub due : Due bits r number st
  pub taken : n + left ≡ 48 * (number + 1)
  pub held : word % 2 ^ left ≡ binary (scrambled_bits bits r) n left

-- what `begin` gives
pub record Begins48 (bits : List ℕ) (r : Registers) (st : ScrambledBits) : Type 0 where
  pub ready : WordReady bits r 0 st st.rest.word st.rest.left
  pub full : st.rest.left ≡ 48

-- k bits were taken, whole groups of u bits, and the word and the count of its bits that are left are in the state
pub record Standing (u : ℕ) (bits : List ℕ) (r : Registers) (k : ℕ) (st : ScrambledBits) : Type 0 where
  pub ready : WordReady bits r k st st.rest.word st.rest.left
  pub most : st.rest.left ≤ 48
  pub groups : ℕ
  pub whole : k ≡ u * groups

-- n bits are whole groups of u bits, and so are 48: where fewer than n are left, they are at most 16
pub record Groups (u n : ℕ) : Type 0 where
  pub words : ℕ
  pub divides : u * words ≡ 48
  pub before : ℕ
  pub size : n ≡ u * (before + 1)
  pub few : u * before ≤ 16
  pub most : n ≤ 48

-- what `take` needs
pub record CanTake (n : ℕ) (bits : List ℕ) (st : ScrambledBits) : Type 0 where
  pub group : ℕ
  pub step : Groups group n
  pub pair : Registers
  pub taken : ℕ
  pub early : taken ≤ 2 ^ 32
  pub standing : Standing group bits pair taken st

-- what `take` gives: the next n bits, and the state after them
pub record Takes (n : ℕ) (bits : List ℕ) (st : ScrambledBits) (v : ℕ) (st' : ScrambledBits) : Type 0 where
  pub goes :
      (u : ℕ) (r : Registers) (k : ℕ) → Groups u n → Standing u bits r k st
      → (v % 2 ^ n ≡ binary (scrambled_bits bits r) k n) × Standing u bits r (k + n) st'

-- a state with another word and count
abbrev pub with_rest : ScrambledBits → Rest → ScrambledBits
with_rest st h = record st { rest = h }

-- what `take_rest` gives: the same where the word and the count are not in the state
pub record TakesRest (n : ℕ) (bits : List ℕ) (st : ScrambledBits) (h : Rest) (st' : ScrambledBits) (x : Rest) : Type 0 where
  pub takes : Takes n bits (with_rest st h) (x.word / 2 ^ x.left) (with_rest st' x)
  pub most : x.left ≤ 48

-- what `end` gives
pub record Ends (r : Registers) (st : ScrambledBits) (x : Registers) : Type 0 where
  pub exact : (bits : List ℕ) (n : ℕ) → WordReady bits r n st st.rest.word st.rest.left → x ≡ after r n
