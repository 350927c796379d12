-- THE BITS OF THE BLOCK: the bytes by the table are those of its symbols. Assumes what reading needs.
use Prim.Native.Nat.{ℕ, ◌+◌, ◌-◌, ◌*◌, ◌/◌, ◌%◌, ◌≤◌, ◌<◌}
use mathlib.Core.Path.{◌≡◌, refl, sym, ap, ◌∙◌}
use mathlib.Core.Bool.{true}
use mathlib.Core.List.{List}
use native.Mathlib.Omega.{arith}
use lib.ListN.{length, get_or}
use borrow.Author.Tests.{ltb-false}
use Rattle.base.specs.Bytes.{pair_of}
use Rattle.base.specs.Digits.{dig-two}
use Rattle.base.proofs.Tests.{by-test}
use Rattle.gold.specs.declared.Registers.{Registers}
use Rattle.gold.specs.Sequence.{binary}
use Rattle.modulation.specs.Symbols.{Order}
use Rattle.modulation.specs.Demapping.{demap_of}
use Rattle.codeword.specs.Codewords.{scrambled}
use Rattle.codeword.specs.Streams.{outputs}
use Rattle.precoding.specs.Places.{own_port}
use Rattle.plan.specs.Fields.{control_elements}
use Rattle.plan.specs.declared.Cell.{Cell}
use Rattle.plan.specs.declared.Frame.{Frame}
use Rattle.places.specs.Places.{places_of}
use Rattle.grid.specs.Elements.{element_in}
use Rattle.recovery.specs.Recovery.{word_of}
use Rattle.section_bits.specs.Gathering.{Bits}
use Rattle.data_read.specs.Runs.{symbol_bit}
use Rattle.data_read.proofs.SymbolBits.{known-stands}
use Rattle.pdcch.specs.Block.{is_given}
use Rattle.pdcch_compare.specs.Symbols.{block_symbol_in, CompareIn}
use Rattle.pdcch_compare.proofs.Places.{table-place, index_in, given-few}
use Rattle.pdcch_compare.proofs.Whole.{elements-few, table-in}
use Rattle.pdcch_read.specs.Reading.{block_bit_in, ReadIn, BlockRead}
use Rattle.pdcch_read.specs.Bytes.{table_element, ElementStands, GivenIn, GivenPut}

module _ {c : Cell} {f : Frame} {elements : ℕ} {groups from d g part : List ℕ} (i : ReadIn c f elements groups from d g part) where
  compared : CompareIn c f elements groups from g
  compared = record { region = i.region; count = i.count; table = i.table; bytes = length part; given = i.given; room = i.room }

  inside : (e : ℕ) → 9 * get_or from e 0 ≤ length part
  inside e = by-test (is_given from e) (i.given.inside e) (λ n. let z = ltb-false 0 (get_or from e 0) n in omega arith)

  pub given-in : GivenIn c elements groups from d g part
  given-in = record { table-in = table-in compared; few = elements-few compared; axis = i.axis; apart = i.apart; inside = inside }

  -- ---- the symbols' bits
  abbrev sent : ℕ → ℕ
  sent = symbol_bit 2 (block_symbol_in c f g)

  two : Bits sent
  two n = dig-two (word_of (demap_of 2 (block_symbol_in c f g (n / 2)))) (2 - 1 - n % 2)

  order : Order 2
  order = (refl, omega arith, omega arith)

  stands : (e : ℕ) → is_given from e ≡ true → ElementStands c groups d g sent e
  unfolding block_symbol_in
  stands e t k l =
      let j = 36 * e + k in
      let m : j < 36 * control_elements c f = omega (arith, given-few i.region i.given e t) in
      let z : j / 36 ≡ e = omega arith in
      known-stands order i.axis (block_symbol_in c f g) j (there j m) (i.known j m (ap (is_given from) z ∙ t))
    where
      there : (j : ℕ) → j < 36 * control_elements c f → block_symbol_in c f g j ≡ pair_of (element_in g (table_element c groups j))
      there j m = ap (λ (x : ℕ). pair_of (element_in g (own_port c.ports (j / 2) * places_of c + x))) (sym (table-place i.region i.table j (index_in c f j m)))

  bit_is : (r : Registers) (n : ℕ) → scrambled sent (outputs r) n ≡ block_bit_in c f g r n
  unfolding scrambled block_bit_in
  bit_is r n = refl

  pub block_read : {r : Registers} {part' : List ℕ} → GivenPut c groups from d g r part elements part' → BlockRead c f from g r part part'
  block_read {r} p =
      record {
        size = p.size;
        bytes = λ e k t l.
            p.bytes sent e k two (omega (arith, i.count, given-few i.region i.given e t)) t (stands e t) l
            ∙ ap (λ (x : ℕ → ℕ). binary x (72 * e + 8 * k) 8) (λ s n. bit_is r n s);
        kept = λ m h. p.kept m (λ e l. h e);
      }
