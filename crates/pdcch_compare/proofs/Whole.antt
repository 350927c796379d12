-- THE COMPARISON OF THE BLOCK: the tests of the given elements answer whether the grid holds some symbols for them, with the weight of their
-- elements. Assumes what comparing the block needs.
use Prim.Native.Nat.{ℕ, ◌+◌, ◌*◌, ◌/◌, ◌%◌, ◌≤◌, ◌<◌}
use mathlib.Core.Path.{◌≡◌, refl, sym, ap, ◌∙◌, subst}
use mathlib.Core.Bool.{true, cond}
use mathlib.Core.List.{List}
use native.Mathlib.Omega.{arith}
use lib.Dec.{eqb}
use lib.ListN.{length}
use Rattle.base.specs.Counts.{cnt}
use Rattle.base.proofs.Counts.{cnt-most}
use Rattle.modulation.specs.Symbols.{Order}
use Rattle.precoding.specs.Matrices.{unit_byte_on}
use Rattle.precoding.specs.Places.{partner_index}
use Rattle.plan.specs.Fields.{region_groups, control_elements}
use Rattle.plan.specs.declared.Cell.{Cell}
use Rattle.plan.specs.declared.Frame.{Frame}
use Rattle.plan.proofs.Counts.{blocks-least}
use Rattle.places.specs.Places.{places_of}
use Rattle.places.proofs.Numbers.{first-row}
use Rattle.std.specs.Prelude.{Some, None}
use Rattle.compare.specs.Comparing.{weight_in}
use Rattle.data_compare.specs.declared.Form.{Form}
use Rattle.data_compare.specs.Tests.{FormOf}
use Rattle.data_compare.specs.Places.{RightAt}
use Rattle.data_compare.proofs.Holding as holding
use Rattle.pdcch.specs.Block.{is_given, block_place, block_sends, block_with}
use Rattle.pdcch_compare.specs.Symbols.{block_symbol_in, BlockHolds, BlockCompared, CompareIn}
use Rattle.pdcch_compare.specs.Quads.{table_place, TableIn, GivenSeen, ElementRight, GivenWrong}
use Rattle.pdcch_compare.proofs.Places.{GivenIndex, index_in, partner-given, table-place, table-inside, given-places, given-count}

module _ {c : Cell} {f : Frame} {elements : ℕ} {groups from g : List ℕ} (i : CompareIn c f elements groups from g) where
  abbrev P : ℕ
  P = c.ports

  abbrev T : ℕ
  T = places_of c

  abbrev U : ℕ
  U = unit_byte_on P 2

  abbrev E : ℕ
  E = control_elements c f

  -- what the loops need
  quads-few : 9 * elements ≤ region_groups c f
  unfolding control_elements
  quads-few = omega (arith, i.count)

  pub elements-few : elements ≤ 88
  elements-few = omega (arith, i.count, i.given.few)

  pub table-in : TableIn c groups (9 * elements) g
  table-in =
      record {
        room = i.room;
        few = omega (arith, elements-few);
        inside = λ q l. table-inside i.region i.table q (omega (arith, quads-few));
      }

  -- ---- the tests by the table are those of the block's places
  abbrev AllRight : Type 0
  AllRight = (j : ℕ) → GivenIndex c f from j → RightAt (block_place c f) P T 2 U g j

  same_place : (j : ℕ) → j < 36 * E → table_place c groups j ≡ block_place c f j
  same_place j l = table-place i.region i.table j (index_in c f j l)

  to_block : (j : ℕ) → GivenIndex c f from j → RightAt (table_place c groups) P T 2 U g j → RightAt (block_place c f) P T 2 U g j
  to_block j a r = rw (same_place j a.0, same_place (partner_index j) (partner-given c f from j a).0) at r

  to-table : (j : ℕ) → GivenIndex c f from j → RightAt (block_place c f) P T 2 U g j → RightAt (table_place c groups) P T 2 U g j
  to-table j a r = rw (same_place j a.0, same_place (partner_index j) (partner-given c f from j a).0) r

  elements-right : ((e : ℕ) → e < elements → is_given from e ≡ true → ElementRight c groups 2 U g e) → AllRight
  elements-right r j a =
      let z : 36 * (j / 36) + j % 36 ≡ j = omega arith in
      let l = a.0 in
      to_block j a (subst (RightAt (table_place c groups) P T 2 U g) z (r (j / 36) (omega (arith, i.count)) a.1 (j % 36) (omega arith)))

  right-elements : AllRight → (e : ℕ) → e < elements → is_given from e ≡ true → ElementRight c groups 2 U g e
  right-elements r e l t k m =
      let z : (36 * e + k) / 36 ≡ e = omega arith in
      let a : GivenIndex c f from (36 * e + k) = (omega (arith, i.count), ap (is_given from) z ∙ t) in
      to-table (36 * e + k) a (r (36 * e + k) a)

  -- ---- what they come to
  some : 0 < T
  some = omega (arith, blocks-least c i.region.cell, first-row c)

  order : Order 2
  order = (refl, omega arith, omega arith)

  pairs : (P ≡ 1 → ⊥) → (j : ℕ) → GivenIndex c f from j → GivenIndex c f from (partner_index j)
  pairs n = partner-given c f from

  right-holds : AllRight → BlockHolds c f from g
  unfolding block_sends block_with block_symbol_in
  right-holds r =
      record {
        known = λ j l e. holding.right-known i.room some order (omega arith) (given-places i.region i.given) pairs r j (l, e);
        holds = holding.right-holds i.room some order (omega arith) (given-places i.region i.given) pairs r;
      }

  holds-right : BlockHolds c f from g → AllRight
  unfolding block_sends block_with block_symbol_in
  holds-right h = holding.holds-right i.room some order (omega arith) (given-places i.region i.given) pairs (λ j a. h.known j a.0 a.1) h.holds

  right-weights : AllRight → cond (eqb P 1) 3 6 * (36 * cnt (is_given from) E) ≡ weight_in (block_sends c f from) g (length g / 3)
  unfolding block_sends
  right-weights r =
      ap (λ (x : ℕ). cond (eqb P 1) 3 6 * x) (sym (given-count i.region i.given))
      ∙ holding.right-weights i.room some order (omega arith) (given-places i.region i.given) pairs r

  -- ---- the answers
  module _ {u : ℕ} {form : Form} (is-u : u ≡ unit_byte_on c.ports 2) (o : FormOf 2 u form) where
    pub given-most : {given : ℕ} → GivenSeen c groups from form g elements given 0 → given ≤ 88
    given-most k = omega (arith, k.count, cnt-most (is_given from) elements, elements-few)

    of-unit : FormOf 2 U form
    of-unit = subst (λ (x : ℕ). FormOf 2 x form) is-u o

    pub block_same : {given : ℕ} → GivenSeen c groups from form g elements given 0 → (n : ℕ) → n ≡ cond (eqb c.ports 1) 3 6 * (36 * given) → BlockCompared c f from g (Some n)
    unfolding BlockCompared
    block_same k n h =
        let r = elements-right ((k.seen 2 U of-unit).right refl) in
        (right-holds r, h ∙ ap (λ (x : ℕ). cond (eqb P 1) 3 6 * (36 * x)) (k.count ∙ ap (cnt (is_given from)) i.count) ∙ right-weights r)

    pub block-differs : GivenWrong c groups from form g elements → BlockCompared c f from g None
    unfolding BlockCompared
    block-differs w h = w.some ((w.done.seen 2 U of-unit).none (right-elements (holds-right h)))
