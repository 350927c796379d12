-- The refusals 10, 11 and 12 by what they say of the buffers. Assumes nothing.
use Prim.Native.Nat.{ℕ}
use mathlib.Core.Path.{◌≡◌, refl, ap}
use mathlib.Core.Logic.{◌↔◌, ◌⊎◌, inl, inr, ⊎_elim}
use mathlib.Core.Bool.{true, false}
use mathlib.Core.List.{List, [], ◌∷◌}
use native.Mathlib.Omega.{arith}
use lib.Dec.{eqb}
use lib.ListN.{length}
use borrow.Author.Tests.{eq-eqb, ne_eqb, eqb-true, eqb-false}
use Rattle.base.proofs.Tests.{by-test, clash}
use Rattle.base.specs.Bits.{bit_at}
use Rattle.plan.specs.Answers.{Answer, given, refused_by}
use Rattle.plan.specs.Check.{refused_as}
use Rattle.plan.specs.Lists.{none_of, Every}
use Rattle.plan.specs.declared.Plan.{Plan}
use Rattle.plan.specs.declared.Refusal.{Refusal}
use Rattle.plan.specs.declared.Refusal.TheVariants.{GridLength, PayloadLength, SpareBit}
use Rattle.plan.proofs.Listed.{none-every}
use Rattle.payload.specs.Payload.{payload_length, grid_length, spare_bits, none_set, spare_clear, AcceptedPayload, unless_lengths, unless_buffers}

module _ {A : Type 0} (refused : Refusal → A) (w : List ℕ) (p : Plan) (grid payload : List ℕ) (answer : A) where
  pub grid-refused : (length grid ≡ grid_length p → ⊥) → unless_lengths refused w p grid payload answer ≡ refused GridLength
  unfolding unless_lengths
  grid-refused n = rw (ne_eqb (length grid) (grid_length p) n) refl

  module _ (g : length grid ≡ grid_length p) where
    pub payload-refused : (length payload ≡ payload_length w p → ⊥) → unless_lengths refused w p grid payload answer ≡ refused PayloadLength
    unfolding unless_lengths
    payload-refused n = rw (eq-eqb (length grid) (grid_length p) g, ne_eqb (length payload) (payload_length w p) n) refl

    pub lengths-right : length payload ≡ payload_length w p → unless_lengths refused w p grid payload answer ≡ answer
    unfolding unless_lengths
    lengths-right s = rw (eq-eqb (length grid) (grid_length p) g, eq-eqb (length payload) (payload_length w p) s) refl

-- ---- a payload is accepted exactly when neither 11 nor 12 applies
bit-clear : (payload : List ℕ) (b : ℕ) → eqb (bit_at payload b) 1 ≡ false → bit_at payload b ≡ 0
unfolding bit_at
bit-clear payload b e = let n = eqb-false (bit_at payload b) 1 e in small n
  where
    small : (bit_at payload b ≡ 1 → ⊥) → bit_at payload b ≡ 0
    small n = omega arith

all-clear : (payload bs : List ℕ) → Every (λ (b : ℕ). bit_at payload b ≡ 0) bs → none_set payload bs ≡ true
unfolding none_set none_of
all-clear payload [] h = refl
all-clear payload (b ∷ bs) h = rw h.0 (all-clear payload bs h.1)

module _ (w : List ℕ) (p : Plan) (payload : List ℕ) where
  pub accepted-payload : length payload ≡ payload_length w p → spare_clear w p payload ≡ true → AcceptedPayload w p payload
  unfolding spare_clear none_set
  accepted-payload s e =
      record {
        size = s;
        spare = none-every (λ (b : ℕ). eqb (bit_at payload b) 1) (λ (b : ℕ). bit_at payload b ≡ 0) (bit-clear payload) (spare_bits w p) e;
      }

  pub payload-clear : AcceptedPayload w p payload → spare_clear w p payload ≡ true
  unfolding spare_clear
  payload-clear a = all-clear payload (spare_bits w p) a.spare

  module _ {A : Type 0} (refused : Refusal → A) (grid : List ℕ) (g : length grid ≡ grid_length p) (answer : A) where
    pub buffers-right : AcceptedPayload w p payload → unless_buffers refused w p grid payload answer ≡ answer
    unfolding unless_buffers
    buffers-right a = rw (payload-clear a) (lengths-right refused w p grid payload answer g a.size)

    pub spare-refused : length payload ≡ payload_length w p → spare_clear w p payload ≡ false → unless_buffers refused w p grid payload answer ≡ refused SpareBit
    unfolding unless_buffers
    spare-refused s e = rw e (lengths-right refused w p grid payload (refused SpareBit) g s)

-- "A plan is accepted when none of the plan's refusals applies to it, a payload under it when neither 11 nor 12 does": both ways, by the
-- answer of a call that has n to answer, with a grid of the plan's length
module _ (w : List ℕ) (p : Plan) (payload grid : List ℕ) (g : length grid ≡ grid_length p) (n : ℕ) where
  abbrev answer : Answer
  answer = unless_buffers refused_as w p grid payload (given n)

  -- 11 or 12 applies
  abbrev Applies : Type 0
  Applies = (answer ≡ refused_by 11) ⊎ (answer ≡ refused_by 12)

  settled : AcceptedPayload w p payload ⊎ ((AcceptedPayload w p payload → ⊥) × Applies)
  unfolding unless_buffers
  settled =
      by-test (eqb (length payload) (payload_length w p))
      (λ s. let size = eqb-true (length payload) (payload_length w p) s in
      by-test (spare_clear w p payload)
      (λ e. inl (accepted-payload w p payload size e))
      (λ e. inr (λ a. clash (payload-clear w p payload a) e, inr (spare-refused w p payload refused_as grid g (given n) size e))))
      (λ s. let other = eqb-false (length payload) (payload_length w p) s in inr (λ a. other a.size, inl (payload-refused refused_as w p grid payload _ g other)))

  not-both : answer ≡ given n → Applies → ⊥
  not-both e (inl r) = clash (ap (λ (x : Answer). x.refusal) r) (ap (λ (x : Answer). x.refusal) e)
  not-both e (inr r) = clash (ap (λ (x : Answer). x.refusal) r) (ap (λ (x : Answer). x.refusal) e)

  accepted-unless : (Applies → ⊥) → AcceptedPayload w p payload
  accepted-unless neither = ⊎_elim (λ a. a) (λ r. absurd (neither r.1)) settled

  pub own-answer : AcceptedPayload w p payload ↔ (answer ≡ given n)
  own-answer = (buffers-right w p payload refused_as grid g (given n), λ e. accepted-unless (not-both e))

  pub payload-accepted : AcceptedPayload w p payload ↔ ((answer ≡ refused_by 11 → ⊥) × (answer ≡ refused_by 12 → ⊥))
  payload-accepted =
      (λ a. let out = not-both (own-answer.0 a) in (λ e. out (inl e), λ e. out (inr e)), λ out. accepted-unless (⊎_elim out.0 out.1))

  pub else-refused : (AcceptedPayload w p payload → ⊥) → (answer ≡ refused_by 11) ⊎ (answer ≡ refused_by 12)
  else-refused h = ⊎_elim (λ a. absurd (h a)) (λ r. r.1) settled
