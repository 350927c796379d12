-- read's ways to its answer: the plan's refusal, 10, 11, 13, or the count and the payload; each gives the equation and keeps the promise. Assumes nothing.
use Prim.Native.Nat.{ℕ}
use mathlib.Core.Path.{◌≡◌, refl, sym, ◌∙◌}
use mathlib.Core.Bool.{Bool, true, false}
use mathlib.Core.List.{List, [], ◌∷◌}
use lib.ListN.{length}
use Rattle.std.specs.declared.result.Result.{Result}
use Rattle.std.specs.declared.result.Result.TheVariants.{Ok as accepted, Err as refused}
use Rattle.plan.specs.Answers.{Answer, given}
use Rattle.plan.specs.Check.{check_of, refused_as}
use Rattle.plan.specs.declared.Plan.{Plan}
use Rattle.plan.specs.declared.Refusal.{Refusal}
use Rattle.plan.specs.declared.Refusal.TheVariants.{GridLength, PayloadLength, NoPayload}
use Rattle.payload.specs.Payload.{grid_length, payload_length}
use Rattle.recovery.specs.Recovery.{payload_in}
use Rattle.build.specs.Build.{pdsch_elements}
use Rattle.build.proofs.Answers.{plan-room}
use Rattle.verify.specs.Made.{Given, Made}
use Rattle.read.specs.Read.{Reads}
use Rattle.read.specs.Equation.{read_of, payload_after}
use Rattle.read.specs.Reading.{Readable}
use Rattle.read.proofs.Settled.{Settles, plan-refused, grid-length, payload-length, none, made}

module _ (w grid payload : List ℕ) where
  abbrev Answered : Answer → List ℕ → Type 0
  Answered a after = (a ≡ read_of w grid payload) × (after ≡ payload_after w grid payload) × Reads w grid payload a after

  answered : {a : Answer} {after : List ℕ} → Settles w grid payload a after → Answered a after
  answered s = (sym s.answer, sym s.payload, s.meets)

  pub way-refused : {a : Result Plan Refusal} {r : Refusal} → a ≡ check_of w → a ≡ refused r → Answered (refused_as r) payload
  way-refused {a} {r} e h = answered (plan-refused w grid payload r (sym e ∙ h))

  module _ (p : Plan) (ok : check_of w ≡ accepted p) where
    pub way-grid : (n : ℕ) → n ≡ grid_length p → (length grid ≡ n → ⊥) → Answered (refused_as GridLength) payload
    way-grid n e h = answered (grid-length w grid payload p ok (λ x. h (x ∙ sym e)))

    module _ (right : length grid ≡ grid_length p) where
      pub way-payload : (n : ℕ) → n ≡ payload_length w p → (length payload ≡ n → ⊥) → Answered (refused_as PayloadLength) payload
      way-payload n e h = answered (payload-length w grid payload p ok right (λ x. h (x ∙ sym e)))

      pub way-given : Given w p grid
      way-given = record { answer = ok; room = plan-room w p ok grid right }

      module _ (size : length payload ≡ payload_length w p) (b : Bool) (m : Made w p grid b) where
        pub way-none : b ≡ false → Answered (refused_as NoPayload) payload
        way-none h = answered (none w grid payload p ok right size (m.not_made h))

        pub way-readable : b ≡ true → Readable w p grid payload
        way-readable h = record { answer = ok; room = plan-room w p ok grid right; made = m.made h; size = size }

        pub way-read : b ≡ true → (n : ℕ) → n ≡ pdsch_elements w p → (after : List ℕ) → after ≡ payload_in w p grid → Answered (given n) after
        way-read h n en after ea = rw (en, ea) (answered (made w grid payload p ok right size (m.made h)))
