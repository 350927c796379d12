-- For the inner contracts and loops only: the elements of a channel's symbols, and what sending them needs.
use Rattle.std.specs.Prelude.{ℕ, ◌*◌, ◌/◌, ◌%◌, ◌<◌, Bool, cond, List, ◌≡◌, eqb, get_or}
use Rattle.base.specs.declared.Element.{Element}
use Rattle.base.specs.declared.Pair.{Pair}
use Rattle.base.specs.Counts.{cnt}
use Rattle.gold.specs.declared.Registers.{Registers}
use Rattle.modulation.specs.Symbols.{Order}
use Rattle.codeword.specs.declared.ScrambledBits.{ScrambledBits}
use Rattle.codeword.specs.Bits48.{Standing}
use Rattle.precoding.specs.Matrices.{unit_byte_on}
use Rattle.precoding.specs.Places.{placed}
use Rattle.constellation.specs.Entries.{Elements}
use Rattle.constellation.specs.Pairs.{joint_of, partners_of}

-- THE VALUES of the elements of a channel of the places `own`, with the symbols d in a unit
unfoldable pub sent_element : (ℕ → Bool) → ℕ → ℕ → ℕ → (ℕ → Pair) → ℕ → Element
sent_element own P T unit d e = placed P (cnt own (e % T) / 2 % 2) unit d (cnt own (e % T)) (e / T)

-- bits are taken in groups: a symbol's with one port, those of a pair of places with two or four
abbrev pub bits_at_once : ℕ → ℕ → ℕ
bits_at_once P q = cond (eqb P 1) q (2 * q)

-- the order's table, for a unit on P ports
pub record TableOf (P q unit : ℕ) (t : List ℕ) : Type 0 where
  pub table : Elements q (unit_byte_on P unit) t

-- what sending from index j on needs, in groups of u bits
pub record Sending (u q j : ℕ) (t bits : List ℕ) (st : ScrambledBits) : Type 0 where
  pub order : Order q
  pub byte : ℕ
  pub small : byte < 256
  pub table : Elements q byte t
  pub pair : Registers
  pub standing : Standing u bits pair (q * j) st

-- the table's entry for a word, and two numbers of the words w and x: what the own port sends, and the other
abbrev pub entry_of : List ℕ → ℕ → ℕ
entry_of t w = get_or t (w % 256) 0

pub record FromTable (t : List ℕ) (w x v u : ℕ) : Type 0 where
  pub own : v ≡ joint_of (entry_of t w) (entry_of t x)
  pub other : u ≡ partners_of (entry_of t w) (entry_of t x)
