-- THEOREM B: the counts of all owners add up to the grid's places, and so do those of the nine kinds. Document 01, Owners: "For any plan
-- the owner counts add up to 12N×S". Assumes that the plan check answers with the plan, and theorem A: every place has one owner.
use Rattle.std.specs.Prelude.{if◌then◌else◌, Ok as accepted}
use Prim.Native.Nat.{ℕ, zero, suc, ◌+◌, ◌*◌, ◌≤◌, ◌<◌}
use mathlib.Core.Path.{◌≡◌, refl, sym, ap, ◌∙◌}
use mathlib.Core.Bool.{Bool, true, false}
use mathlib.Core.List.{List, [], ◌∷◌, ◌++◌}
use native.Mathlib.Nat.{mul-one, mul_comm}
use native.Mathlib.Omega.{arith}
use lib.Dec.{eqb}
use lib.ListN.{length}
use Rattle.base.proofs.Tests.{by-test, is_false}
use Rattle.base.specs.Tables.{table}
use Rattle.plan.specs.Fields.{mapping_units}
use Rattle.plan.specs.Check.{check_of}
use Rattle.plan.specs.CommandLists.{users_of}
use Rattle.plan.specs.Valid.{Valid}
use Rattle.plan.specs.declared.Plan.{Plan}
use Rattle.plan.proofs.Valid.{valid}
use Rattle.plan.proofs.Counts.{units-most}
use Rattle.base.specs.Choice.{indicator}
use Rattle.layout.specs.Owners.{symbols, carriers, above, owns, owners}
use Rattle.layout.proofs.Lists.{In, here, there}
use Rattle.layout.proofs.Partition.{in_owners}
use Rattle.layout.specs.declared.Mark.TheVariants.{Primary, Secondary}
use Rattle.layout.specs.declared.Owner.{Owner}
use Rattle.layout.specs.declared.Owner.TheVariants.{Crs, Sync, Pbch, Pcfich, Phich, User as UserOf, Held, Idle}
use Rattle.base.specs.Sums.{sum_to, sum_of}
use Rattle.layout.proofs.OneOwner.{fit, one-owner}
use Rattle.counts.specs.Counts.{count_of, kind_of, kinds, kind_count}
use Rattle.base.proofs.Sums.{sum-const, swap, list_same}

-- ---- no owner is in the list twice: it is in the order of these codes
abbrev code : Owner → ℕ
code Idle = 0
code (Crs q) = 1 + q
code (Sync Primary) = 5
code (Sync Secondary) = 6
code Pbch = 7
code Pcfich = 8
code Held = 9
code (Phich m) = 10 + m
code (UserOf i) = 1010 + i

abbrev Rise : ℕ → List Owner → Type 0
Rise b [] = Unit {0}
Rise b (o ∷ os) = (b ≤ code o) × Rise (suc (code o)) os

rise-users : (n b c : ℕ) (f : ℕ → Owner) → ((i : ℕ) → code (f i) ≡ b + i) → c ≤ b → Rise c (table n f)
unfolding table
rise-users zero b c f h l = tt
rise-users (suc n) b c f h l =
    (omega (arith, h 0), rise-users n (b + 1) (suc (code (f 0))) (λ i. f (suc i)) (λ i. omega (arith, h (suc i))) (omega (arith, h 0)))

rise-units : (n b c e : ℕ) (f : ℕ → Owner) (rest : List Owner) → ((i : ℕ) → code (f i) ≡ b + i) → c ≤ b → b + n ≤ e → ((d : ℕ) → d ≤ e → Rise d rest) → Rise c (table n f ++ rest)
unfolding table
rise-units zero b c e f rest h l m r = r c (omega arith)
rise-units (suc n) b c e f rest h l m r =
    (omega (arith, h 0), rise-units n (b + 1) (suc (code (f 0))) e (λ i. f (suc i)) rest (λ i. omega (arith, h (suc i))) (omega (arith, h 0)) (omega arith) r)

rises : (w : List ℕ) (p : Plan) → Valid w p → Rise 0 (owners w p)
unfolding owners above
rises w p ok = (
  omega arith,
  (
    omega arith,
    (
      omega arith,
      (
        omega arith,
        (
          omega arith,
          (
            omega arith,
            (
              omega arith,
              (
                omega arith,
                (
                  omega arith,
                  (
                    omega arith,
                    rise-units (mapping_units p.cell) 10 10 1010 Phich (table (length (users_of w p)) UserOf) (λ i. refl) (omega arith)
                        (omega (arith, units-most p.cell ok.cell))
                        (λ d l. rise-users (length (users_of w p)) 1010 d UserOf (λ i. refl) l),
                  ),
                ),
              ),
            ),
          ),
        ),
      ),
    ),
  ),
)

-- ---- so one of the list has the place
module _ (t : Owner → Bool) (a : Owner) (only : (o : Owner) → t o ≡ true → o ≡ a) where
  none : (b : ℕ) (os : List Owner) → Rise b os → code a < b → sum_of os (λ o. indicator (t o)) ≡ 0
  unfolding sum_of
  none b [] r l = refl
  none b (o ∷ os) r l =
      let n : t o ≡ false = is_false (t o) (λ e. let z : code o ≡ code a = ap code (only o e) in omega arith) in
      rw (n, none (suc (code o)) os r.1 (omega arith)) refl

  once : (b : ℕ) (os : List Owner) → Rise b os → In a os → t a ≡ true → sum_of os (λ o. indicator (t o)) ≡ 1
  unfolding sum_of
  once b (o ∷ os) r here e = rw (e, none (suc (code a)) os r.1 (omega arith)) refl
  once b (o ∷ os) r (there i) e =
      by-test (t o)
      (λ x. rw (x, none (suc (code o)) os r.1 (let z : code o ≡ code a = ap code (only o x) in omega arith)) refl)
      (λ x. rw (x, once (suc (code o)) os r.1 i e) refl)
  once b [] r x3 e = elim x3 [ ]

kind-once : (o : Owner) (x : ℕ) → sum_to kinds (λ j. if eqb (kind_of o) j then x else 0) ≡ x
unfolding sum_to
kind-once (Crs q) x = omega arith
kind-once (Sync Primary) x = omega arith
kind-once (Sync Secondary) x = omega arith
kind-once Pbch x = omega arith
kind-once Pcfich x = omega arith
kind-once (Phich m) x = omega arith
kind-once (UserOf i) x = omega arith
kind-once Held x = omega arith
kind-once Idle x = omega arith

module _ (w : List ℕ) (p : Plan) (e : check_of w ≡ accepted p) where
  place-one : (s k : ℕ) → s < symbols p.cell → k < carriers p.cell → sum_of (owners w p) (λ o. indicator (owns w p o s k)) ≡ 1
  place-one s k l m =
      let a = one-owner w p e s k l m in
      let ok = valid w p e in
      once (λ o. owns w p o s k) a.0 a.2 0 (owners w p) (rises w p ok) (in_owners w p s k (fit w p e k m) ok.apart a.0 a.1) a.1

  -- THEOREM B
  pub counts-add-up : sum_of (owners w p) (count_of w p) ≡ carriers p.cell * symbols p.cell
  unfolding count_of
  counts-add-up =
      let S = symbols p.cell in
      let K = carriers p.cell in
      swap S (owners w p) (λ o s. sum_to K (λ k. indicator (owns w p o s k)))
      ∙ sum-const S K _ (λ s l. swap K (owners w p) (λ o k. indicator (owns w p o s k)) ∙ sum-const K 1 _ (λ k m. place-one s k l m) ∙ mul-one K)
      ∙ mul_comm S K

  pub kinds-add-up : sum_to kinds (kind_count w p) ≡ carriers p.cell * symbols p.cell
  unfolding kind_count
  kinds-add-up =
      sym (swap kinds (owners w p) (λ o j. if eqb (kind_of o) j then count_of w p o else 0))
      ∙ list_same (owners w p) _ (count_of w p) (λ o. kind-once o (count_of w p o))
      ∙ counts-add-up
