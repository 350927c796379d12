-- THE COMPARISON OF AN AREA: the tests of all its places answer whether the area holds some symbols, with the weight of its elements. Assumes
-- what comparing an area needs.
use Prim.Native.Nat.{ℕ, ◌*◌, ◌/◌, ◌≤◌, ◌<◌}
use mathlib.Core.Path.{◌≡◌, refl, ap, ◌∙◌, subst}
use mathlib.Core.Bool.{cond}
use mathlib.Core.List.{List}
use native.Mathlib.Omega.{arith}
use lib.Dec.{eqb}
use lib.ListN.{length}
use Rattle.precoding.specs.Matrices.{unit_byte_on}
use Rattle.precoding.specs.Places.{partner_index}
use Rattle.plan.proofs.Counts.{blocks-least}
use Rattle.base.proofs.Counts.{cnt-most}
use Rattle.places.specs.Places.{places_of}
use Rattle.places.proofs.Numbers.{first-row}
use Rattle.std.specs.Prelude.{Some, None}
use Rattle.compare.specs.Comparing.{weight_in}
use Rattle.areas.specs.declared.Area.{Area}
use Rattle.areas.specs.Areas.{area_at, area_count, area_index, area_sends}
use Rattle.data_compare.specs.declared.Form.{Form}
use Rattle.data_compare.specs.Symbols.{area_place, area_symbol, area_sent, AreaHolds, AreaCompared, CompareIn}
use Rattle.data_compare.specs.Tests.{FormOf}
use Rattle.data_compare.specs.Places.{RightAt, Through, RunsWrong}
use Rattle.data_compare.proofs.AreaSymbols.{place_in, at_place, index_back, place-back, index_below}
use Rattle.data_compare.proofs.Holding as holding

module _ {a : Area} {q unit : ℕ} {masks g : List ℕ} (i : CompareIn a q unit masks g) where
  abbrev P : ℕ
  P = a.cell.ports

  abbrev T : ℕ
  T = places_of a.cell

  abbrev U : ℕ
  U = unit_byte_on P unit

  abbrev AllRight : Type 0
  AllRight = (j : ℕ) → j < area_count a → RightAt (area_place a) P T q U g j

  some : 0 < T
  some = omega (arith, blocks-least a.cell i.area.cell, first-row a.cell)

  places : holding.Placed (area_at a) T (λ (j : ℕ). j < area_count a) (area_place a) (area_index a)
  places =
      record {
        inside = place_in a;
        owned = at_place a;
        back = index_back a;
        listed = λ t l e. index_below a t e l;
        again = λ t l e. place-back a t e l;
      }

  pairs : (P ≡ 1 → ⊥) → (j : ℕ) → j < area_count a → partner_index j < area_count a
  pairs n j l = omega (arith, i.pairs n)

  right-holds : AllRight → AreaHolds a q unit g
  unfolding area_sends area_sent area_symbol
  right-holds r =
      record {
        known = holding.right-known i.area.room some i.area.order i.some places pairs r;
        holds = holding.right-holds i.area.room some i.area.order i.some places pairs r;
      }

  holds-right : AreaHolds a q unit g → AllRight
  unfolding area_sends area_sent area_symbol
  holds-right h = holding.holds-right i.area.room some i.area.order i.some places pairs h.known h.holds

  right-weights : AllRight → cond (eqb P 1) 3 6 * area_count a ≡ weight_in (area_sends a) g (length g / 3)
  unfolding area_sends area_count
  right-weights r = holding.right-weights i.area.room some i.area.order i.some places pairs r

  -- ---- the answers, from the end of its runs
  module _ {u : ℕ} {f : Form} (is-u : u ≡ unit_byte_on a.cell.ports unit) (o : FormOf q u f) where
    pub count-few : {j : ℕ} → Through a f g j 0 → j ≤ 16800
    unfolding area_count
    count-few k = omega (arith, k.index, cnt-most (area_at a) (places_of a.cell), i.area.room.fits)

    form : FormOf q (unit_byte_on a.cell.ports unit) f
    form = subst (λ (x : ℕ). FormOf q x f) is-u o

    pub area_same : {j : ℕ} → Through a f g j 0 → (n : ℕ) → n ≡ cond (eqb a.cell.ports 1) 3 6 * j → AreaCompared a q unit g (Some n)
    unfolding AreaCompared area_place
    area_same k n h =
        let r : AllRight = (k.done.seen q U form).right refl in
        (right-holds r, h ∙ ap (λ (x : ℕ). cond (eqb a.cell.ports 1) 3 6 * x) k.index ∙ right-weights r)

    pub area-differs : RunsWrong a f g → AreaCompared a q unit g None
    unfolding AreaCompared area_place
    area-differs w h = w.some ((w.done.done.seen q U form).none (holds-right h))
