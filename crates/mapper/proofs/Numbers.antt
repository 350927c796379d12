-- The calls' answers by the cases of the code, and as numbers for C. Assumes nothing.
use Prim.Native.Nat.{ℕ, ◌^◌, ◌<◌}
use mathlib.Core.Path.{◌≡◌, refl, sym, ap, ◌∙◌, subst}
use mathlib.Core.List.{List}
use native.Mathlib.Omega.{arith}
use lib.IntN.{ℤ, pos, neg_ℤ, ◌-ℤ◌}
use lib.Signed.{mag}
use mir.Syntax.{w64}
use mir.Val.{SFits, to_z, of_z}
use mir.Facts.{to_z-of_z, to_z_pos}
use Rattle.std.specs.declared.result.Result.{Result}
use Rattle.std.specs.declared.result.Result.TheVariants.{Ok as accepted, Ok, Err as refused}
use Rattle.base.proofs.Fits.{fits-abs, abs_neg, sub-zero}
use Rattle.plan.specs.Answers.{Answer, given, refused_by}
use Rattle.plan.specs.Check.{check_of, refused_as, number_answer}
use Rattle.plan.specs.declared.Plan.{Plan}
use Rattle.plan.specs.declared.Refusal.{Refusal}
use Rattle.layout.specs.Query.{owner_query_of, owner_answer}
use Rattle.read.specs.Read.{Reads}
use Rattle.mapper.specs.Calls.{answer_with, check_answer_of, owner_answer_of, checked_answer, in_c}
use Rattle.mapper.specs.Sizes.{Small}
use Rattle.layout.specs.declared.Owner.{Owner}

module _ (w : List ℕ) (a : Result Plan Refusal) (e : a ≡ check_of w) where
  module _ (p : Plan) (is : a ≡ accepted p) where
    pub number_is : (f : Plan → ℕ) (n : ℕ) → n ≡ f p → given n ≡ answer_with f (check_of w)
    number_is f n q = ap given q ∙ ap (answer_with f) (sym is ∙ e)

  module _ (r : Refusal) (is : a ≡ refused r) where
    pub number-refused : (f : Plan → ℕ) → refused_as r ≡ answer_with f (check_of w)
    number-refused f = ap (answer_with f) (sym is ∙ e)

  -- the answer's number is that of the bytes
  pub check-numbers : checked_answer a ≡ check_answer_of w
  check-numbers = ap checked_answer e

-- ---- the owner's number
pub owner-numbers : (w : List ℕ) (s k port : ℕ) (r : Result Owner Refusal) → r ≡ owner_query_of w s k port → owner_answer r ≡ owner_answer_of w s k port
owner-numbers w s k port r e = ap owner_answer e

-- ---- what read promises of its answer, it promises of its equation's
pub reads_of : {w grid before after : List ℕ} {a b : Answer} → a ≡ b → Reads w grid before a after → Reads w grid before b after
reads_of {w = w} {grid = grid} {before = before} {after = after} e h = subst (λ (x : Answer). Reads w grid before x after) e h

-- ---- a number for C, as it is or back from the bits of a call's i64
back : (z : ℤ) → mag z < 2 ^ 63 → to_z w64 (of_z w64 z) ≡ z
back z fits = to_z-of_z {w = w64} {z = z} (record { sfits = fits })

module _ (n : ℕ) (x : Answer) where
  pub plus-is : x ≡ given n → pos n ≡ in_c x
  unfolding in_c
  plus-is e = rw e refl

  pub minus_is : x ≡ refused_by n → neg_ℤ (pos n) ≡ in_c x
  unfolding in_c
  minus_is e = rw e refl

  module _ (z : ℤ) (fits : mag z < 2 ^ 63) where
    pub plus-back : z ≡ pos n → x ≡ given n → to_z w64 (of_z w64 z) ≡ in_c x
    plus-back q e = back z fits ∙ q ∙ plus-is e

    pub minus-back : z ≡ neg_ℤ (pos n) → x ≡ refused_by n → to_z w64 (of_z w64 z) ≡ in_c x
    minus-back q e = back z fits ∙ q ∙ minus_is e

pub number-back : (z : ℤ) → mag z < 2 ^ 63 → (n : Result ℕ Refusal) (a : Answer) → z ≡ in_c (number_answer n) → number_answer n ≡ a → to_z w64 (of_z w64 z) ≡ in_c a
number-back z fits n a q e = back z fits ∙ q ∙ ap in_c e

-- ---- minus a number below 2^63
module _ (n : ℕ) (small : n < 2 ^ 63) where
  negated : pos 0 -ℤ to_z w64 n ≡ neg_ℤ (pos n)
  negated = rw (to_z_pos w64 {n = n} small) (sub-zero (pos n))

  pub negated_fits : SFits w64 (pos 0 -ℤ to_z w64 n)
  negated_fits = rw negated (fits-abs w64 (neg_ℤ (pos n)) (omega (arith, abs_neg (pos n))))

  pub negated-is : (m : ℕ) → n ≡ m → to_z w64 (of_z w64 (pos 0 -ℤ to_z w64 n)) ≡ neg_ℤ (pos m)
  negated-is m e = to_z-of_z negated_fits ∙ negated ∙ ap (λ (k : ℕ). neg_ℤ (pos k)) e

pub small_is : (n : Result ℕ Refusal) (v : ℕ) → n ≡ Ok v → Small n → v < 2 ^ 63
small_is n v e h = rw e at h
