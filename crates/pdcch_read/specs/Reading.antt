-- For the inner contracts and loops only: the bits of given control elements, read from a grid where each bit's symbol stands.
use Rattle.std.specs.Prelude.{ℕ, suc, ◌+◌, ◌-◌, ◌*◌, ◌/◌, ◌%◌, ◌<◌, ◌≡◌, true, List, length, get_or}
use Rattle.base.specs.Digits.{dig}
use Rattle.gold.specs.declared.Registers.{Registers}
use Rattle.gold.specs.Sequence.{binary}
use Rattle.modulation.specs.Demapping.{demap_of}
use Rattle.modulation.specs.Marks.{is_symbol}
use Rattle.codeword.specs.Streams.{outputs}
use Rattle.constellation.specs.Axis.{Axis}
use Rattle.plan.specs.Fields.{control_elements}
use Rattle.plan.specs.declared.Cell.{Cell}
use Rattle.plan.specs.declared.Frame.{Frame}
use Rattle.places.specs.Places.{places_of}
use Rattle.grid.specs.Writing.{Room}
use Rattle.recovery.specs.Recovery.{word_of}
use Rattle.pdcch.specs.Groups.{RegionOf, GroupTable}
use Rattle.pdcch.specs.Block.{is_given, FromIn}
use Rattle.pdcch_compare.specs.Symbols.{block_symbol_in}

-- bit n of the block: its bit of symbol n / 2, with the scrambling bit that the pair r gives taken off
unfoldable pub block_bit_in : Cell → Frame → List ℕ → Registers → ℕ → ℕ
block_bit_in c f g r n = (dig (word_of (demap_of 2 (block_symbol_in c f g (n / 2)))) (1 - n % 2) + outputs r n) % 2

-- each given element has bytes of its own
pub record Apart (from : List ℕ) : Type 0 where
  pub one : (e x : ℕ) → is_given from e ≡ true → is_given from x ≡ true → get_or from e 0 ≡ get_or from x 0 → e ≡ x

-- what reading needs: a grid whose symbols of given elements are constellation points
pub record ReadIn (c : Cell) (f : Frame) (elements : ℕ) (groups from d g part : List ℕ) : Type 0 where
  pub region : RegionOf c f
  pub count : elements ≡ control_elements c f
  pub table : GroupTable c f groups
  pub given : FromIn c f from (length part)
  pub apart : Apart from
  pub axis : Axis 2 d
  pub room : Room c.ports (places_of c) g
  pub known : (j : ℕ) → j < 36 * control_elements c f → is_given from (j / 36) ≡ true → is_symbol 2 (block_symbol_in c f g j) ≡ true

-- THE BYTES: nine of each given element, and the others as they were
pub record BlockRead (c : Cell) (f : Frame) (from g : List ℕ) (r : Registers) (before after : List ℕ) : Type 0 where
  pub size : length after ≡ length before
  pub bytes : (e i : ℕ) → is_given from e ≡ true → i < 9 → get_or after (9 * (get_or from e 0 - 1) + i) 0 ≡ binary (block_bit_in c f g r) (72 * e + 8 * i) 8
  pub kept : (m : ℕ) → ((e : ℕ) → is_given from e ≡ true → get_or from e 0 ≡ suc (m / 9) → ⊥) → get_or after m 0 ≡ get_or before m 0
