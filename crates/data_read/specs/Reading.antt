-- For the inner contracts and loops only: the bits of the channels that fill their places k first, then s, read from a grid where each bit's symbol
-- stands. proofs/AreaBits.antt: PBCH's and the users' bits are those of recovery/specs/Recovery.antt.
use Rattle.std.specs.Prelude.{ℕ, ◌+◌, ◌-◌, ◌/◌, ◌%◌, ◌<◌, ◌≡◌, true, List}
use Rattle.base.specs.Digits.{dig}
use Rattle.gold.specs.declared.Registers.{Registers}
use Rattle.modulation.specs.Demapping.{demap_of}
use Rattle.modulation.specs.Marks.{is_symbol}
use Rattle.codeword.specs.Streams.{outputs}
use Rattle.recovery.specs.Recovery.{word_of}
use Rattle.areas.specs.declared.Area.{Area}
use Rattle.constellation.specs.Axis.{Axis}
use Rattle.areas.specs.Areas.{area_count, AreaIn, SignalsIn}
use Rattle.areas.specs.Tables.{RowMasks}
use Rattle.data_compare.specs.Symbols.{area_symbol}

-- bit i with symbols of q bits: its bit of symbol i / q, with the scrambling bit that the pair r gives taken off
unfoldable pub area_bit : Area → ℕ → List ℕ → Registers → ℕ → ℕ
area_bit a q g r i = (dig (word_of (demap_of q (area_symbol a g (i / q)))) (q - 1 - i % q) + outputs r i) % 2

-- what reading needs: an area whose symbols are constellation points. With two ports or four its places go in pairs
pub record SectionIn (a : Area) (q : ℕ) (g : List ℕ) : Type 0 where
  pub area : AreaIn a q g
  pub known : (j : ℕ) → j < area_count a → is_symbol q (area_symbol a g j) ≡ true
  pub pairs : (a.cell.ports ≡ 1 → ⊥) → area_count a % 2 ≡ 0

-- and with tables that callers make: of the order's levels, and of the rows' masks
pub record AreaReads (a : Area) (q : ℕ) (d masks g : List ℕ) : Type 0 where
  pub section : SectionIn a q g
  pub signals : SignalsIn a
  pub axis : Axis q d
  pub bytes : RowMasks a.cell a.frame a.signals a.leaves 14 masks
