-- For the inner contracts and loops only: the elements that the control channel sends. Its block has R quads of four symbols, of which control
-- element e has the nine from 9e on; `from` says which nine bytes are its bits. An element's number is port × T + place, T the number of
-- places on a port.
use Rattle.std.specs.Prelude.{ℕ, ◌+◌, ◌-◌, ◌*◌, ◌/◌, ◌%◌, ◌≤◌, ◌≡◌, Bool, true, ◌&&◌, List, ltb, length, get_or}
use Rattle.base.specs.declared.Element.{Element}
use Rattle.base.specs.declared.Pair.{Pair}
use Rattle.base.specs.Bits.{bit_at}
use Rattle.gold.specs.declared.Registers.{Registers}
use Rattle.codeword.specs.Codewords.{data_symbol}
use Rattle.codeword.specs.Streams.{outputs}
use Rattle.precoding.specs.Places.{placed}
use Rattle.plan.specs.Fields.{control_symbols, control_elements}
use Rattle.plan.specs.declared.Cell.{Cell}
use Rattle.plan.specs.declared.Frame.{Frame}
use Rattle.layout.specs.Rules.{element_group, in_group}
use Rattle.layout.specs.Region.{is_vacant, group_quad, block_symbol, block_group}
use Rattle.places.specs.Places.{place_number, symbol_at, carrier_at, places_of}
use Rattle.places.specs.Quads.{quad_place, quad_index}
use Rattle.grid.specs.Writing.{sends}

-- control element e is given: its bits are the nine bytes from 9 × (from e − 1) on; 0 stands for none
abbrev pub is_given : List ℕ → ℕ → Bool
is_given from e = ltb 0 (get_or from e 0)

pub record FromIn (c : Cell) (f : Frame) (from : List ℕ) (n : ℕ) : Type 0 where
  pub size : length from ≡ 88
  pub few : control_elements c f ≤ 88
  pub none : (e : ℕ) → control_elements c f ≤ e → get_or from e 0 ≡ 0
  pub inside : (e : ℕ) → is_given from e ≡ true → 9 * get_or from e 0 ≤ n

-- the block has (s, k), and a given element's quad lies there
unfoldable pub block_has : Cell → Frame → ℕ → ℕ → Bool
block_has c f s k = ltb s (control_symbols c f) && in_group c s k && is_vacant c s (element_group c s k)

unfoldable pub given_at : Cell → Frame → List ℕ → ℕ → ℕ → Bool
given_at c f from s k = block_has c f s k && is_given from (group_quad c f s (element_group c s k) / 9)

-- which of the block's 4R symbols stands at place t, and the place of symbol j
unfoldable pub block_index : Cell → Frame → ℕ → ℕ
block_index c f t = let s = symbol_at c t in let k = carrier_at c t in 4 * group_quad c f s (element_group c s k) + quad_index c s k

unfoldable pub block_place : Cell → Frame → ℕ → ℕ
block_place c f j = let s = block_symbol c f (j / 4) in place_number c s (quad_place c s (block_group c f (j / 4)) (j % 4))

-- the elements that are sent, those of the given elements on the ports with a term, and their values with the symbols d
unfoldable pub block_sends : Cell → Frame → List ℕ → ℕ → Bool
block_sends c f from e =
    let t = e % places_of c in
    given_at c f from (symbol_at c t) (carrier_at c t) && sends c.ports (block_index c f t / 2 % 2) (e / places_of c)

unfoldable pub block_with : Cell → Frame → (ℕ → Pair) → ℕ → Element
block_with c f d e = let j = block_index c f (e % places_of c) in placed c.ports (j / 2 % 2) 2 d j (e / places_of c)

-- bit i of the block, and the elements that these bits give, scrambled with a pair
unfoldable pub block_bit : List ℕ → List ℕ → ℕ → ℕ
block_bit from bits i = bit_at bits (72 * (get_or from (i / 72) 0 - 1) + i % 72)

unfoldable pub block_sent : Cell → Frame → List ℕ → List ℕ → Registers → ℕ → Element
block_sent c f from bits r = block_with c f (data_symbol 2 (block_bit from bits) (outputs r))
