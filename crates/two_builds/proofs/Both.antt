-- The ways to the answer of two builds: the plan's refusal, 10, 11, 12, or the count and both grids; and that whatever the way, the grids
-- at exit are apart as demand 3 says. Assumes nothing.
use Prim.Native.Nat.{ℕ}
use mathlib.Core.Path.{◌≡◌, refl, sym, ap, ◌∙◌}
use mathlib.Core.Bool.{Bool, true, false}
use mathlib.Core.List.{List, [], ◌∷◌}
use lib.ListN.{length}
use borrow.Author.Tests.{eq-eqb, ne_eqb}
use Rattle.std.specs.declared.result.Result.{Result}
use Rattle.std.specs.declared.result.Result.TheVariants.{Ok as accepted, Ok, Err as refused, Err}
use Rattle.plan.specs.Answers.{Answer, given}
use Rattle.plan.specs.Check.{check_of, refused_as, number_answer}
use Rattle.plan.specs.declared.Plan.{Plan}
use Rattle.plan.specs.declared.Refusal.{Refusal}
use Rattle.plan.specs.declared.Refusal.TheVariants.{GridLength, PayloadLength, SpareBit}
use Rattle.payload.specs.Payload.{grid_length, payload_length, spare_clear, AcceptedPayload}
use Rattle.payload.proofs.Refusals.{accepted-payload, payload-clear}
use Rattle.subframe.specs.Grid.{grid_of}
use Rattle.subframe.proofs.TwoBuilds.{two-builds}
use Rattle.build.specs.Build.{pdsch_elements}
use Rattle.build.specs.Filling.{Ready}
use Rattle.build.proofs.Answers.{plan-room}
use Rattle.two_builds.specs.Both.{unless_both, both_built, first_after, second_after, Separate}

-- ---- each refusal by what it says of the four buffers
module _ {R : Type 0} (refusal : Refusal → R) (w : List ℕ) (p : Plan) (A B g h : List ℕ) (answer : R) where
  first-grid-refused : (length g ≡ grid_length p → ⊥) → unless_both refusal w p A B g h answer ≡ refusal GridLength
  unfolding unless_both
  first-grid-refused n = rw (ne_eqb (length g) (grid_length p) n) refl

  module _ (eg : length g ≡ grid_length p) where
    second-grid-refused : (length h ≡ grid_length p → ⊥) → unless_both refusal w p A B g h answer ≡ refusal GridLength
    unfolding unless_both
    second-grid-refused n = rw (eq-eqb (length g) (grid_length p) eg, ne_eqb (length h) (grid_length p) n) refl

    module _ (eh : length h ≡ grid_length p) where
      first-payload-refused : (length A ≡ payload_length w p → ⊥) → unless_both refusal w p A B g h answer ≡ refusal PayloadLength
      unfolding unless_both
      first-payload-refused n = rw (eq-eqb (length g) (grid_length p) eg, eq-eqb (length h) (grid_length p) eh, ne_eqb (length A) (payload_length w p) n) refl

      module _ (eA : length A ≡ payload_length w p) where
        second-payload-refused : (length B ≡ payload_length w p → ⊥) → unless_both refusal w p A B g h answer ≡ refusal PayloadLength
        unfolding unless_both
        second-payload-refused n =
            rw (eq-eqb (length g) (grid_length p) eg, eq-eqb (length h) (grid_length p) eh, eq-eqb (length A) (payload_length w p) eA, ne_eqb (length B) (payload_length w p) n) refl

        module _ (eB : length B ≡ payload_length w p) where
          first-spare-refused : spare_clear w p A ≡ false → unless_both refusal w p A B g h answer ≡ refusal SpareBit
          unfolding unless_both
          first-spare-refused s =
              rw (eq-eqb (length g) (grid_length p) eg, eq-eqb (length h) (grid_length p) eh, eq-eqb (length A) (payload_length w p) eA, eq-eqb (length B) (payload_length w p) eB, s) refl

          module _ (sA : spare_clear w p A ≡ true) where
            second-spare-refused : spare_clear w p B ≡ false → unless_both refusal w p A B g h answer ≡ refusal SpareBit
            unfolding unless_both
            second-spare-refused s =
                rw (eq-eqb (length g) (grid_length p) eg, eq-eqb (length h) (grid_length p) eh, eq-eqb (length A) (payload_length w p) eA, eq-eqb (length B) (payload_length w p) eB, sA, s) refl

            both_right : spare_clear w p B ≡ true → unless_both refusal w p A B g h answer ≡ answer
            unfolding unless_both
            both_right s =
                rw (eq-eqb (length g) (grid_length p) eg, eq-eqb (length h) (grid_length p) eh, eq-eqb (length A) (payload_length w p) eA, eq-eqb (length B) (payload_length w p) eB, sA, s) refl

-- ---- the ways
module _ (w A B g h : List ℕ) where
  abbrev Answered : Result ℕ Refusal → List ℕ → List ℕ → Type 0
  Answered r g' h' = (number_answer r ≡ both_built w A B g h) × (g' ≡ first_after w A B g h) × (h' ≡ second_after w A B g h) × Separate w A B g h g' h'

  module _ (p : Plan) (ok : check_of w ≡ accepted p) (a : AcceptedPayload w p A) (b : AcceptedPayload w p B) (eg : length g ≡ grid_length p) (eh : length h ≡ grid_length p) where
    all_right : {R : Type 0} (refusal : Refusal → R) (answer : R) → unless_both refusal w p A B g h answer ≡ answer
    all_right refusal answer = both_right refusal w p A B g h answer eg eh a.size b.size (payload-clear w p A a) (payload-clear w p B b)

    answer-is : both_built w A B g h ≡ given (pdsch_elements w p)
    unfolding both_built
    answer-is = rw ok (all_right refused_as _)

    first-is : first_after w A B g h ≡ grid_of w p A
    unfolding first_after
    first-is = rw ok (all_right (λ (r : Refusal). g) _)

    second_is : second_after w A B g h ≡ grid_of w p B
    unfolding second_after
    second_is = rw ok (all_right (λ (r : Refusal). h) _)

  -- DEMAND 3 follows from the equations of the two grids
  separate : Separate w A B g h (first_after w A B g h) (second_after w A B g h)
  separate = record { apart = λ p ok a b eg eh. rw (first-is p ok a b eg eh, second_is p ok a b eg eh) (two-builds w p ok A B) }

  answered : (r : Result ℕ Refusal) (g' h' : List ℕ) → number_answer r ≡ both_built w A B g h → g' ≡ first_after w A B g h → h' ≡ second_after w A B g h → Answered r g' h'
  answered r g' h' er e₁ e₂ = (er, e₁, e₂, rw (e₁, e₂) separate)

  pub way-refused : {a : Result Plan Refusal} {r : Refusal} → a ≡ check_of w → a ≡ refused r → Answered (Err r) g h
  unfolding both_built first_after second_after
  way-refused {a} {r} e k = answered (Err r) g h (rw (sym e ∙ k) refl) (rw (sym e ∙ k) refl) (rw (sym e ∙ k) refl)

  module _ (p : Plan) (ok : check_of w ≡ accepted p) where
    refused-by : (x : Refusal) → ((R : Type 0) (refusal : Refusal → R) (answer : R) → unless_both refusal w p A B g h answer ≡ refusal x) → Answered (Err x) g h
    unfolding both_built first_after second_after
    refused-by x u = answered (Err x) g h (rw ok (sym (u Answer refused_as _))) (rw ok (sym (u (List ℕ) (λ (r : Refusal). g) _))) (rw ok (sym (u (List ℕ) (λ (r : Refusal). h) _)))

    module _ (n : ℕ) (en : n ≡ grid_length p) where
      pub way-first-grid : (length g ≡ n → ⊥) → Answered (Err GridLength) g h
      way-first-grid k = refused-by GridLength (λ R refusal answer. first-grid-refused refusal w p A B g h answer (λ x. k (x ∙ sym en)))

      module _ (eg : length g ≡ n) where
        pub way-second-grid : (length h ≡ n → ⊥) → Answered (Err GridLength) g h
        way-second-grid k = refused-by GridLength (λ R refusal answer. second-grid-refused refusal w p A B g h answer (eg ∙ en) (λ x. k (x ∙ sym en)))

        module _ (eh : length h ≡ n) (m : ℕ) (em : m ≡ payload_length w p) where
          pub way-first-payload : (length A ≡ m → ⊥) → Answered (Err PayloadLength) g h
          way-first-payload k =
              refused-by PayloadLength (λ R refusal answer. first-payload-refused refusal w p A B g h answer (eg ∙ en) (eh ∙ en) (λ x. k (x ∙ sym em)))

          module _ (eA : length A ≡ m) where
            pub way-second-payload : (length B ≡ m → ⊥) → Answered (Err PayloadLength) g h
            way-second-payload k =
                refused-by PayloadLength (λ R refusal answer. second-payload-refused refusal w p A B g h answer (eg ∙ en) (eh ∙ en) (eA ∙ em) (λ x. k (x ∙ sym em)))

            module _ (eB : length B ≡ m) (s : Bool) (es : s ≡ spare_clear w p A) where
              pub way-first-spare : s ≡ false → Answered (Err SpareBit) g h
              way-first-spare k =
                  refused-by SpareBit (λ R refusal answer. first-spare-refused refusal w p A B g h answer (eg ∙ en) (eh ∙ en) (eA ∙ em) (eB ∙ em) (sym es ∙ k))

              module _ (clear : s ≡ true) (t : Bool) (et : t ≡ spare_clear w p B) where
                pub way-second-spare : t ≡ false → Answered (Err SpareBit) g h
                way-second-spare k =
                    refused-by SpareBit (λ R refusal answer. second-spare-refused refusal w p A B g h answer (eg ∙ en) (eh ∙ en) (eA ∙ em) (eB ∙ em) (sym es ∙ clear) (sym et ∙ k))

                module _ (clear' : t ≡ true) where
                  first-accepted : AcceptedPayload w p A
                  first-accepted = accepted-payload w p A (eA ∙ em) (sym es ∙ clear)

                  second-accepted : AcceptedPayload w p B
                  second-accepted = accepted-payload w p B (eB ∙ em) (sym et ∙ clear')

                  pub way-first-ready : Ready w p A g
                  way-first-ready = record { answer = ok; right = first-accepted; room = plan-room w p ok g (eg ∙ en) }

                  pub way-second-ready : Ready w p B h
                  way-second-ready = record { answer = ok; right = second-accepted; room = plan-room w p ok h (eh ∙ en) }

                  pub way-both : (c : ℕ) → c ≡ pdsch_elements w p → (g' : List ℕ) → g' ≡ grid_of w p A → (h' : List ℕ) → h' ≡ grid_of w p B → Answered (Ok c) g' h'
                  way-both c ec g' e₁ h' e₂ =
                      answered (Ok c) g' h'
                      (ap given ec ∙ sym (answer-is p ok first-accepted second-accepted (eg ∙ en) (eh ∙ en)))
                      (e₁ ∙ sym (first-is p ok first-accepted second-accepted (eg ∙ en) (eh ∙ en)))
                      (e₂ ∙ sym (second_is p ok first-accepted second-accepted (eg ∙ en) (eh ∙ en)))
