-- For the inner contracts and loops only: a channel's symbols, from its bits and what the register pair gives.
use Rattle.std.specs.Prelude.{ℕ, List}
use Rattle.base.specs.declared.Pair.{Pair}
use Rattle.base.specs.Bits.{bit_at}
use Rattle.gold.specs.declared.Registers.{Registers}
use Rattle.gold.specs.Steps.{after, output_of}
use Rattle.codeword.specs.Codewords.{data_symbol}

-- the bits that a register pair gives, one step after the other
unfoldable pub outputs : Registers → ℕ → ℕ
outputs r i = output_of (after r i)

-- the symbols of the bits of a slice, scrambled by what the pair r gives
unfoldable pub symbols_of : ℕ → List ℕ → Registers → ℕ → Pair
symbols_of q bits r j = data_symbol q (bit_at bits) (outputs r) j
