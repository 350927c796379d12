-- build's ways to its answer: the plan's refusal, 10, 11, 12, or the count and the grid. Assumes nothing.
use Prim.Native.Nat.{ℕ}
use mathlib.Core.Path.{◌≡◌, refl, sym, ap, ◌∙◌}
use mathlib.Core.Bool.{Bool, true, false}
use mathlib.Core.Logic.{◌↔◌, ◌⊎◌, inl, inr}
use mathlib.Core.List.{List, [], ◌∷◌}
use native.Mathlib.Nat.{mul-le-mul}
use native.Mathlib.Omega.{arith}
use lib.Dec.{eqb}
use lib.ListN.{length}
use borrow.Author.Tests.{eqb-true, eqb-false}
use Rattle.std.specs.declared.result.Result.{Result}
use Rattle.std.specs.declared.result.Result.TheVariants.{Ok as accepted, Ok, Err as refused, Err}
use Rattle.base.proofs.Tests.{by-test, clash}
use Rattle.plan.specs.Answers.{Answer, given, refused_by}
use Rattle.plan.specs.Check.{refusal_number, check_of, refused_as, number_answer}
use Rattle.plan.specs.declared.Plan.{Plan}
use Rattle.plan.specs.declared.Refusal.{Refusal}
use Rattle.plan.specs.declared.Refusal.TheVariants.{GridLength, PayloadLength, SpareBit}
use Rattle.plan.specs.Lists.{Among}
use Rattle.plan.specs.Fields.{port_counts}
use Rattle.plan.proofs.Counts.{blocks-most, ports-least, ports-most}
use Rattle.plan.proofs.Valid.{valid}
use Rattle.places.proofs.Numbers.{symbols-most}
use Rattle.layout.specs.Owners.{symbols, carriers}
use Rattle.places.specs.Places.{places_of}
use Rattle.payload.specs.Payload.{grid_length, payload_length, spare_clear, AcceptedPayload, unless_buffers}
use Rattle.payload.proofs.Refusals.{grid-refused, payload-refused, spare-refused, accepted-payload, buffers-right, own-answer, payload-accepted, else-refused}
use Rattle.grid.specs.Writing.{Room}
use Rattle.subframe.specs.Grid.{grid_of}
use Rattle.subframe.proofs.Bytes.{length-by-port}
use Rattle.build.specs.Build.{pdsch_elements, built_of, grid_after}
use Rattle.build.specs.Filling.{Ready}

-- a grid of the plan's length has the plan's ports and places
not_three : (P : ℕ) → Among P port_counts → P ≡ 3 → ⊥
not_three P (inl a) e = omega arith
not_three P (inr (inl a)) e = omega arith
not_three P (inr (inr (inl a))) e = omega arith
not_three P (inr (inr (inr a))) e = a

pub plan-room : (w : List ℕ) (p : Plan) → check_of w ≡ accepted p → (grid : List ℕ) → length grid ≡ grid_length p → Room p.cell.ports (places_of p.cell) grid
plan-room w p ok grid right =
    let v = (valid w p ok).cell in
    let h = mul-le-mul {n₁ = symbols p.cell} {m₁ = carriers p.cell} {n₂ = 14} {m₂ = 1200} (symbols-most p.cell) (omega (arith, blocks-most p.cell v)) in
    record {
      some = ports-least p.cell v;
      most = ports-most p.cell v;
      not_three = not_three p.cell.ports v.ports;
      fits = omega (arith, h);
      size = right ∙ length-by-port p;
    }

module _ (w payload grid : List ℕ) where
  abbrev Answered : Result ℕ Refusal → List ℕ → Type 0
  Answered b g = (number_answer b ≡ built_of w payload grid) × (g ≡ grid_after w payload grid)

  answered : (b : Result ℕ Refusal) {g : List ℕ} → number_answer b ≡ built_of w payload grid → g ≡ grid_after w payload grid → Answered b g
  answered b e f = (e, f)

  pub way-refused : {a : Result Plan Refusal} {r : Refusal} → a ≡ check_of w → a ≡ refused r → Answered (Err r) grid
  unfolding built_of grid_after
  way-refused {a} {r} e h = answered (Err r) (rw (sym e ∙ h) refl) (rw (sym e ∙ h) refl)

  module _ (p : Plan) (ok : check_of w ≡ accepted p) where
    pub way-grid : (n : ℕ) → n ≡ grid_length p → (length grid ≡ n → ⊥) → Answered (Err GridLength) grid
    unfolding built_of grid_after unless_buffers
    way-grid n e h =
        let k : length grid ≡ grid_length p → ⊥ = λ x. h (x ∙ sym e) in
        answered (Err GridLength) (rw ok (sym (grid-refused refused_as w p grid payload _ k))) (rw ok (sym (grid-refused (λ (r : Refusal). grid) w p grid payload _ k)))

    module _ (right : length grid ≡ grid_length p) where
      pub way-payload : (n : ℕ) → n ≡ payload_length w p → (length payload ≡ n → ⊥) → Answered (Err PayloadLength) grid
      unfolding built_of grid_after unless_buffers
      way-payload n e h =
          let k : length payload ≡ payload_length w p → ⊥ = λ x. h (x ∙ sym e) in
          answered (Err PayloadLength) (rw ok (sym (payload-refused refused_as w p grid payload _ right k))) (rw ok (sym (payload-refused (λ (r : Refusal). grid) w p grid payload _ right k)))

      module _ (size : length payload ≡ payload_length w p) (b : Bool) (eb : b ≡ spare_clear w p payload) where
        pub way-spare : b ≡ false → Answered (Err SpareBit) grid
        unfolding built_of grid_after
        way-spare h =
            answered (Err SpareBit) (rw ok (sym (spare-refused w p payload refused_as grid right _ size (sym eb ∙ h))))
            (rw ok (sym (spare-refused w p payload (λ (r : Refusal). grid) grid right _ size (sym eb ∙ h))))

        accepted-is : b ≡ true → AcceptedPayload w p payload
        accepted-is h = accepted-payload w p payload size (sym eb ∙ h)

        pub way-ready : b ≡ true → Ready w p payload grid
        way-ready h = record { answer = ok; right = accepted-is h; room = plan-room w p ok grid right }

        pub way-built : b ≡ true → (n : ℕ) → n ≡ pdsch_elements w p → (g : List ℕ) → g ≡ grid_of w p payload → Answered (Ok n) g
        unfolding built_of grid_after
        way-built h n en g eg =
            answered (Ok n) (ap given en ∙ rw ok (sym (buffers-right w p payload refused_as grid right _ (accepted-is h))))
            (eg ∙ rw ok (sym (buffers-right w p payload (λ (r : Refusal). grid) grid right _ (accepted-is h))))

-- "A plan is accepted when none of the plan's refusals applies to it, a payload under it when neither 11 nor 12 does": both ways, of a
-- call of build with a grid of the plan's length
module _ (w : List ℕ) (p : Plan) (payload grid : List ℕ) (ok : check_of w ≡ accepted p) (right : length grid ≡ grid_length p) where
  pub accepted-exactly : AcceptedPayload w p payload ↔ (built_of w payload grid ≡ given (pdsch_elements w p))
  unfolding built_of
  accepted-exactly = rw ok (own-answer w p payload grid right (pdsch_elements w p))

  pub accepted-neither : AcceptedPayload w p payload ↔ ((built_of w payload grid ≡ refused_by 11 → ⊥) × (built_of w payload grid ≡ refused_by 12 → ⊥))
  unfolding built_of
  accepted-neither = rw ok (payload-accepted w p payload grid right (pdsch_elements w p))

  pub accepted-else : (AcceptedPayload w p payload → ⊥) → (built_of w payload grid ≡ refused_by 11) ⊎ (built_of w payload grid ≡ refused_by 12)
  unfolding built_of
  accepted-else = rw ok (else-refused w p payload grid right (pdsch_elements w p))

-- and what a call that is not refused had: an accepted plan, a grid of its length, a payload accepted under it
module _ (w payload grid : List ℕ) (n : ℕ) (built : built_of w payload grid ≡ given n) where
  not-refused : (m : ℕ) → built_of w payload grid ≡ refused_by m → ⊥
  not-refused m e = clash (ap (λ (a : Answer). a.refusal) e) (ap (λ (a : Answer). a.refusal) built)

  abbrev Had : Plan → Type 0
  Had p = (check_of w ≡ accepted p) × (length grid ≡ grid_length p) × AcceptedPayload w p payload

  under : (p : Plan) → check_of w ≡ accepted p → Had p
  under p ok =
      by-test (eqb (length grid) (grid_length p))
      (λ e. let right = eqb-true (length grid) (grid_length p) e in (ok, right, (accepted-neither w p payload grid ok right).1 (not-refused 11, not-refused 12)))
      (λ e. absurd (not-refused 10 (sym (way-grid w payload grid p ok (grid_length p) refl (eqb-false (length grid) (grid_length p) e)).0)))

  pub built-under : (p : Plan) × Had p
  unfolding built_of
  built-under = pick (check_of w) refl
    where
      pick : (a : Result Plan Refusal) → check_of w ≡ a → (p : Plan) × Had p
      pick (accepted p) e = (p, under p e)
      pick (refused r) e = absurd (not-refused (refusal_number r) (rw e refl))
