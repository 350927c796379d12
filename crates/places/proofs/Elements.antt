-- The places, by their numbers, are as many as the element count says. Assumes nothing.
use Prim.Native.Nat.{ℕ, zero, suc, ◌+◌, ◌*◌}
use mathlib.Core.Path.{◌≡◌, ap, ap₂, ◌∙◌}
use mathlib.Core.List.{List}
use native.Mathlib.Nat.{suc-mul, zero-mul}
use Rattle.plan.specs.declared.Plan.{Plan}
use Rattle.base.specs.Choice.{indicator}
use Rattle.layout.specs.Owners.{symbols, carriers, owns}
use Rattle.layout.specs.declared.Owner.{Owner}
use Rattle.base.specs.Sums.{sum_to}
use Rattle.base.proofs.Sums.{sum_same, cnt-sum}
use Rattle.counts.specs.Counts.{count_of}
use Rattle.base.specs.Counts.{cnt}
use Rattle.places.specs.Places.{place_number, places_of, owns_at}
use Rattle.base.proofs.Counts.{cnt-add}
use Rattle.places.proofs.Numbers.{owns-at}

module _ (w : List ℕ) (p : Plan) (o : Owner) where
  row : (s : ℕ) → cnt (λ (k : ℕ). owns_at w p o (place_number p.cell s k)) (carriers p.cell) ≡ sum_to (carriers p.cell) (λ k. indicator (owns w p o s k))
  row s =
      cnt-sum (λ (k : ℕ). owns_at w p o (place_number p.cell s k)) (carriers p.cell)
      ∙ sum_same (carriers p.cell) _ _ (λ k l. ap indicator (owns-at w p o s k l))

  rows : (n : ℕ) → cnt (owns_at w p o) (n * carriers p.cell) ≡ sum_to n (λ s. sum_to (carriers p.cell) (λ k. indicator (owns w p o s k)))
  unfolding cnt sum_to
  rows zero = ap (cnt (owns_at w p o)) (zero-mul (carriers p.cell))
  rows (suc n) =
      ap (cnt (owns_at w p o)) (suc-mul n (carriers p.cell))
      ∙ cnt-add (owns_at w p o) (n * carriers p.cell) (carriers p.cell)
      ∙ ap₂ ◌+◌ (rows n) (row n)

  pub count-is : cnt (owns_at w p o) (places_of p.cell) ≡ count_of w p o
  unfolding count_of
  count-is = rows (symbols p.cell)
