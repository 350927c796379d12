-- THE WHOLE GRID: where the channels' elements hold what is due and no other byte is set, the grid is that of the payload in it, and only
-- there. Assumes nothing beyond the plan check's answer.
use Prim.Native.Nat.{ℕ, ◌*◌, ◌/◌, ◌%◌, ◌<◌}
use mathlib.Core.Path.{◌≡◌, refl, sym, subst, ◌∙◌}
use mathlib.Core.Bool.{Bool, false}
use mathlib.Core.List.{List}
use native.Mathlib.Omega.{arith}
use borrow.Author.Tests.{eqb-true, eq-eqb}
use lib.Dec.{eqb}
use lib.ListN.{length}
use Rattle.base.proofs.Tests.{by-test, clash}
use Rattle.plan.specs.declared.Plan.{Plan}
use Rattle.places.specs.Places.{places_of}
use Rattle.std.specs.Prelude.{Option, Some, None, MatchOption}
use Rattle.compare.specs.Comparing.{Holds, nonzeros, Compared}
use Rattle.compare.proofs.Comparing.{rest-silent, silent-rest}
use Rattle.subframe.specs.Grid.{grid_of}
use Rattle.recovery.specs.Recovery.{payload_in}
use Rattle.schedule.specs.Schedule.{all_send}
use Rattle.schedule.proofs.Covers.{covers}
use Rattle.schedule.proofs.Owners.{all_in}
use Rattle.verify.specs.Made.{element_due, Given, Made}
use Rattle.verify.proofs.Elements.{made-element, made-grid}

module _ (w : List ℕ) (p : Plan) (g : List ℕ) (given : Given w p g) where
  abbrev N : ℕ
  N = p.cell.ports * places_of p.cell

  size : length g / 3 ≡ N
  size = omega (arith, given.room.size)

  whole : length g % 3 ≡ 0
  whole = omega (arith, given.room.size)

  made_holds : grid_of w p (payload_in w p g) ≡ g → Holds (all_send w p) (element_due w p g) g
  made_holds m = record { elements = λ e k. made-element w p g m e (all_in w p given.answer given.room e k) }

  module _ {n : ℕ} (c : Compared (all_send w p) (element_due w p g) g (Some n)) where
    weight-made : n ≡ nonzeros g → grid_of w p (payload_in w p g) ≡ g
    weight-made h =
        made-grid w p g given.room
        (λ e l.
        by-test (all_send w p e) (c.found.0.elements e)
        (λ k.
        rest-silent (all_send w p) g whole (sym c.found.1 ∙ h) e (rw size l) k
        ∙ sym (covers w p given.answer (payload_in w p g) e l k)))

    made-weight : grid_of w p (payload_in w p g) ≡ g → n ≡ nonzeros g
    made-weight m =
        c.found.1
        ∙ silent-rest (all_send w p) g whole
        (λ e l k. let r : e < N = rw (← size) l in made-element w p g m e r ∙ covers w p given.answer (payload_in w p g) e r k)

  differs-made : Compared (all_send w p) (element_due w p g) g None → grid_of w p (payload_in w p g) ≡ g → ⊥
  differs-made c m = c.found (made_holds m)

  -- ---- the answer, by what was seen
  pub answer-weight :
      {s : Option ℕ} {n m : ℕ} → s ≡ Some n → m ≡ nonzeros g → Compared (all_send w p) (element_due w p g) g s → Made w p g (eqb n m)
  answer-weight {n = n} {m = m} es em c =
      let k : Compared (all_send w p) (element_due w p g) g (Some n) = subst (Compared (all_send w p) (element_due w p g) g) es c in
      record {
        made = λ e. weight-made k (eqb-true n m e ∙ em);
        not_made = λ e h. clash (eq-eqb n m (made-weight k h ∙ sym em)) e;
      }

  pub answer-differs : {s : Option ℕ} → s ≡ None → Compared (all_send w p) (element_due w p g) g s → Made w p g false
  answer-differs es c =
      record { made = λ e. clash e refl; not_made = λ e. differs-made (subst (Compared (all_send w p) (element_due w p g) g) es c) }

  -- the answer where the test of a number is P
  pub answer :
      {s : Option ℕ} {r : Bool} {P : ℕ → Type 0} → Compared (all_send w p) (element_due w p g) g s → ((n : ℕ) → P n → r ≡ eqb n (nonzeros g))
      → MatchOption s (r ≡ false) P → Made w p g r
  answer {s = Some n} c t e = rw (t n e) (answer-weight refl refl c)
  answer {s = None} c t e = rw e (answer-differs refl c)
