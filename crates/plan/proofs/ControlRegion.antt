-- The control region has one symbol more than the CFI at six blocks, else as many; a region that fits the extended PHICH duration has three.
-- Assumes nothing.
use Prim.Native.Nat.{ℕ, ◌+◌, ◌≤◌}
use mathlib.Core.Path.{◌≡◌, refl, ◌∙◌}
use mathlib.Core.Bool.{true}
use native.Mathlib.Omega.{arith}
use lib.Dec.{leb, eqb}
use borrow.Author.Tests.{eq-eqb, ne_eqb, leb-true}
use Rattle.plan.specs.Fields.{control_symbols, phich_fits}
use Rattle.plan.specs.declared.Cell.{Cell}
use Rattle.plan.specs.declared.Frame.{Frame}
use Rattle.plan.proofs.Listed.{choose}

module _ (c : Cell) (f : Frame) where
  pub region-six : c.blocks ≡ 6 → f.cfi + 1 ≡ control_symbols c f
  unfolding control_symbols
  region-six e = rw (eq-eqb c.blocks 6 e) refl

  pub region-other : (c.blocks ≡ 6 → ⊥) → f.cfi ≡ control_symbols c f
  unfolding control_symbols
  region-other n = rw (ne_eqb c.blocks 6 n) refl

  pub region-least : f.cfi ≤ control_symbols c f
  unfolding control_symbols
  region-least = choose (λ (n : ℕ). f.cfi ≤ n) (eqb c.blocks 6) (f.cfi + 1) f.cfi (λ e. omega arith) (λ e. omega arith)

  pub region-most : control_symbols c f ≤ f.cfi + 1
  unfolding control_symbols
  region-most = choose (λ (n : ℕ). n ≤ f.cfi + 1) (eqb c.blocks 6) (f.cfi + 1) f.cfi (λ e. omega arith) (λ e. omega arith)

  -- ---- the extended duration: n is the number of symbols of the region
  pub fits-extended : c.duration ≡ 1 → {n : ℕ} → n ≡ control_symbols c f → leb 3 n ≡ phich_fits c f
  unfolding phich_fits
  fits-extended e en = rw (eq-eqb c.duration 1 e, en) refl

  pub fits-normal : (c.duration ≡ 1 → ⊥) → true ≡ phich_fits c f
  unfolding phich_fits
  fits-normal n = rw (ne_eqb c.duration 1 n) refl

  pub three-symbols : phich_fits c f ≡ true → c.duration ≡ 1 → 3 ≤ control_symbols c f
  three-symbols t e = leb-true 3 (control_symbols c f) (fits-extended e refl ∙ t)
