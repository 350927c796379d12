-- `grid::silence` meets its contract: byte after byte. Assumes nothing.
use Prim.Native.Nat.{ℕ, zero, suc}
use mathlib.Core.Path.{◌≡◌, refl, ap, ◌∙◌}
use mathlib.Core.List.{List, ◌∷◌}
use lib.ListN.{length, replicate}
use Rattle.base.specs.Tables.{table}
use Rattle.grid.proofs.silence.Goals as goal

blank : (n : ℕ) → replicate {A = ℕ} n 0 ≡ table n (λ (i : ℕ). 0)
unfolding table
blank zero = refl
blank (suc n) = ap (λ (xs : List ℕ). 0 ∷ xs) (blank n)

pub returns : goal.returns
returns c = c.fill.ensures.after (λ y e. e) ∙ blank (length c.args.grid.now)
