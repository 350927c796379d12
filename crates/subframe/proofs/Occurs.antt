-- The numbers of symbols of PBCH and of a user are such as transmit diversity maps: even with two and four ports. Assumes nothing
-- beyond the plan check's answer.
use Rattle.std.specs.Prelude.{if◌then◌else◌, Ok as accepted}
use Prim.Native.Nat.{ℕ, ◌%◌, ◌<◌}
use mathlib.Core.Path.{◌≡◌, refl, sym, ap, ◌∙◌, subst}
use mathlib.Core.Logic.{◌⊎◌, inl, inr}
use mathlib.Core.Bool.{Bool, true, false}
use mathlib.Core.List.{List}
use lib.Dec.{eqb}
use lib.ListN.{length}
use Rattle.precoding.specs.Layers.{Occurs, one, two, four}
use Rattle.plan.specs.Lists.{Among}
use Rattle.plan.specs.Fields.{port_counts}
use Rattle.plan.specs.Check.{check_of}
use Rattle.plan.specs.CommandLists.{users_of}
use Rattle.plan.specs.declared.Plan.{Plan}
use Rattle.plan.proofs.Valid.{valid}
use Rattle.layout.specs.declared.Owner.TheVariants.{Pbch, User as UserOf}
use Rattle.counts.proofs.FixedCounts.{pbch-count}
use Rattle.counts.proofs.UserSizes.{user-even}
use Rattle.counts.specs.Counts.{count_of}

occurs-by : (P M : ℕ) → Among P port_counts → ((P ≡ 2) ⊎ (P ≡ 4) → M % 2 ≡ 0) → Occurs P M
occurs-by P M (inl e) even = subst (λ (n : ℕ). Occurs n M) (sym e) one
occurs-by P M (inr (inl e)) even = subst (λ (n : ℕ). Occurs n M) (sym e) (two (even (inl e)))
occurs-by P M (inr (inr (inl e))) even = subst (λ (n : ℕ). Occurs n M) (sym e) (four (even (inr e)))
occurs-by P M (inr (inr (inr e))) even = absurd e

pbch-parity : (a b : Bool) → (if a then (if b then 216 else 240) else 0) % 2 ≡ 0
pbch-parity true true = refl
pbch-parity true false = refl
pbch-parity false b = refl

module _ (w : List ℕ) (p : Plan) (ok : check_of w ≡ accepted p) where
  pub even-occurs : (M : ℕ) → M % 2 ≡ 0 → Occurs p.cell.ports M
  even-occurs M even = occurs-by p.cell.ports M (valid w p ok).cell.ports (λ _. even)

  pub pbch-occurs : Occurs p.cell.ports (count_of w p Pbch)
  pbch-occurs =
      even-occurs (count_of w p Pbch)
      (ap (λ (n : ℕ). n % 2) (pbch-count w p ok) ∙ pbch-parity (eqb p.frame.subframe 0) (eqb p.cell.prefix 1))

  pub user-occurs : (i : ℕ) → i < length (users_of w p) → Occurs p.cell.ports (count_of w p (UserOf i))
  user-occurs i l =
      occurs-by p.cell.ports (count_of w p (UserOf i)) (valid w p ok).cell.ports
      (user-even w p ok (record { rnti = 0; order = 0; first = 0; count = 0 }) i l)
