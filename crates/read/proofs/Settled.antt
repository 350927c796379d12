-- The promise and the equation, case by case: the plan's refusal, 10, 11, 13, or the count and the payload. In each, one answer with one payload meets
-- the promise, and the equation gives these. Assumes nothing.
use Prim.Native.Nat.{ℕ}
use mathlib.Core.Path.{◌≡◌, refl, sym, ap, ◌∙◌, subst}
use mathlib.Core.Bool.{Bool, true, false}
use mathlib.Core.Logic.{◌⊎◌, inl, inr}
use mathlib.Core.List.{List}
use lib.ListN.{length}
use Rattle.std.specs.declared.result.Result.{Result}
use Rattle.std.specs.declared.result.Result.TheVariants.{Ok as accepted, Err as refused}
use Rattle.base.proofs.Tests.{clash}
use Rattle.plan.specs.Answers.{Answer, given, refused_by}
use Rattle.plan.specs.Check.{refusal_number, check_of, refused_as}
use Rattle.plan.specs.declared.Plan.{Plan}
use Rattle.plan.specs.declared.Refusal.{Refusal}
use Rattle.plan.specs.declared.Refusal.TheVariants.{GridLength, PayloadLength, NoPayload}
use Rattle.plan.proofs.Answers.{no_number}
use Rattle.payload.specs.Payload.{grid_length, payload_length, unless_lengths, AcceptedPayload}
use Rattle.payload.proofs.Refusals.{grid-refused, payload-refused, lengths-right}
use Rattle.subframe.specs.Grid.{grid_of}
use Rattle.subframe.proofs.Bytes.{grid-size}
use Rattle.recovery.specs.Recovery.{payload_in}
use Rattle.recovery.proofs.Payload.{bytes, accepted as accepted-in}
use Rattle.recovery.proofs.Recovered.{recovered}
use Rattle.recovery.proofs.Grids.{exact}
use Rattle.build.specs.Build.{pdsch_elements}
use Rattle.read.specs.Read.{ReadUnder, Reads}
use Rattle.read.specs.Equation.{is_made, read_of, payload_after}
use Rattle.read.proofs.Made.{made-true, made-false}

-- ---- the answers of the plan check exclude each other, and have one plan or refusal
is_plan : Result Plan Refusal → Bool
is_plan (accepted p) = true
is_plan (refused r) = false

no-plan : {r : Refusal} {p : Plan} {X : Type 0} → refused r ≡ accepted p → X
unfolding is_plan
no-plan e = clash {b = true} refl (ap is_plan (sym e))

plan_in : Plan → Result Plan Refusal → Plan
plan_in p (accepted q) = q
plan_in p (refused r) = p

same-plan : {p q : Plan} → ◌≡◌ {A = Result Plan Refusal} (accepted p) (accepted q) → p ≡ q
unfolding plan_in
same-plan {p = p} e = ap (plan_in p) e

refusal_in : Refusal → Result Plan Refusal → Refusal
refusal_in r (accepted q) = r
refusal_in r (refused x) = x

same-refusal : {x y : Refusal} → ◌≡◌ {A = Result Plan Refusal} (refused x) (refused y) → x ≡ y
unfolding refusal_in
same-refusal {x = x} e = ap (refusal_in x) e

-- ---- what the equation gives, it alone meets the promise
pub record Settles (w grid before : List ℕ) (a : Answer) (after : List ℕ) : Type 0 where
  pub answer : read_of w grid before ≡ a
  pub payload : payload_after w grid before ≡ after
  pub meets : Reads w grid before a after
  pub only : (b : Answer) (left : List ℕ) → Reads w grid before b left → (b ≡ a) × (left ≡ after)

module _ (w grid before : List ℕ) where
  pub plan-refused : (r : Refusal) → check_of w ≡ refused r → Settles w grid before (refused_as r) before
  unfolding read_of payload_after
  plan-refused r e =
      record {
        answer = rw e refl;
        payload = rw e refl;
        meets = record { first = λ x f. ap refused_as (same-refusal (sym e ∙ f)); under = λ p f. no-plan (sym e ∙ f); kept = λ n f. refl };
        only = λ b left h. (h.first r e, h.kept (refusal_number r) (h.first r e));
      }

  module _ (p : Plan) (ok : check_of w ≡ accepted p) where
    -- the plan check answers with one plan
    under_one : {a : Answer} {after : List ℕ} → ReadUnder w p grid before a after → ((n : ℕ) → a ≡ refused_by n → after ≡ before) → Reads w grid before a after
    under_one {a = a} {after = after} u k =
        record {
          first = λ x e. no-plan (sym e ∙ ok);
          under = λ q e. subst (λ (y : Plan). ReadUnder w y grid before a after) (same-plan (sym ok ∙ e)) u;
          kept = k;
        }

    -- 10 or 11: refusal x, whatever the answer to the right lengths is
    module _ (x : Refusal) (u : (A : Type 0) (f : Refusal → A) (a : A) → unless_lengths f w p grid before a ≡ f x)
        (wrong : length grid ≡ grid_length p → length before ≡ payload_length w p → ⊥) where
      short : {b : Answer} {left : List ℕ} → ReadUnder w p grid before b left → b ≡ refused_as x
      short h = pick h.answer
        where
          pick : {b : Answer} → (b ≡ unless_lengths refused_as w p grid before (given (pdsch_elements w p))) ⊎ (b ≡ unless_lengths refused_as w p grid before (refused_by 13)) → b ≡ refused_as x
          pick (inl e) = e ∙ u Answer refused_as _
          pick (inr e) = e ∙ u Answer refused_as _

      wrong-length : Settles w grid before (refused_as x) before
      unfolding read_of payload_after
      wrong-length =
          record {
            answer = rw ok (u Answer refused_as _);
            payload = rw ok (u (List ℕ) (λ (r : Refusal). before) _);
            meets =
                under_one
                (record {
                  answer = inl (sym (u Answer refused_as _));
                  none = λ right size. absurd (wrong right size);
                  returned = λ n f. no_number f;
                  back = λ A small a f size. absurd (wrong (ap length (sym f) ∙ grid-size w p A) size);
                })
                (λ n f. refl);
            only = λ b left h. let q = short (h.under p ok) in (q, h.kept (refusal_number x) q);
          }

    pub grid-length : (length grid ≡ grid_length p → ⊥) → Settles w grid before (refused_as GridLength) before
    grid-length n = wrong-length GridLength (λ A f a. grid-refused f w p grid before a n) (λ right size. n right)

    module _ (right : length grid ≡ grid_length p) where
      pub payload-length : (length before ≡ payload_length w p → ⊥) → Settles w grid before (refused_as PayloadLength) before
      payload-length n = wrong-length PayloadLength (λ A f a. payload-refused f w p grid before a right n) (λ _ size. n size)

      -- the lengths are right: 13, or the count
      module _ (size : length before ≡ payload_length w p) where
        pub none : (grid_of w p (payload_in w p grid) ≡ grid → ⊥) → Settles w grid before (refused_as NoPayload) before
        unfolding read_of payload_after
        none h =
            let d : is_made w p grid ≡ false = made-false w p grid h in
            let no : (A : List ℕ) → AcceptedPayload w p A → grid_of w p A ≡ grid → ⊥ = λ A a e. h ((exact w p ok grid).0 (A, a, e)) in
            record {
              answer = rw (ok, d) (lengths-right refused_as w p grid before _ right size);
              payload = rw (ok, d) (lengths-right (λ (r : Refusal). before) w p grid before _ right size);
              meets =
                  under_one
                  (record {
                    answer = inr (sym (lengths-right refused_as w p grid before _ right size));
                    none = λ _ _. ((λ e A small. no A), (λ k. refl));
                    returned = λ n f. no_number f;
                    back = λ A small a f _. absurd (no A a f);
                  })
                  (λ n f. refl);
              only = λ b left k. let q = ((k.under p ok).none right size).1 (λ A small. no A) in (q, k.kept 13 q);
            }

        pub made : grid_of w p (payload_in w p grid) ≡ grid → Settles w grid before (given (pdsch_elements w p)) (payload_in w p grid)
        unfolding read_of payload_after
        made h =
            let d : is_made w p grid ≡ true = (made-true w p grid).1 h in
            record {
              answer = rw (ok, d) (lengths-right refused_as w p grid before _ right size);
              payload = rw (ok, d) (lengths-right (λ (r : Refusal). before) w p grid before _ right size);
              meets =
                  under_one
                  (record {
                    answer = inl (sym (lengths-right refused_as w p grid before _ right size));
                    none = λ _ _. ((λ e. no_number (sym e)), (λ k. absurd (k (payload_in w p grid) (bytes w p grid) (accepted-in w p grid) h)));
                    returned = λ n f. (accepted-in w p grid, h);
                    back = λ A small a f _. (refl, ap (payload_in w p) (sym f) ∙ recovered w p ok A a small);
                  })
                  (λ n f. no_number (sym f));
              only = λ b left k. (k.under p ok).back (payload_in w p grid) (bytes w p grid) (accepted-in w p grid) h size;
            }
