-- The counts of the PHICH, as the code makes them. Assumes nothing.
use Prim.Native.Nat.{ℕ, ◌*◌, ◌≤◌, ◌<◌}
use mathlib.Core.Path.{◌≡◌, refl}
use native.Mathlib.Nat.{mul-le-mul}
use native.Mathlib.Omega.{arith}
use borrow.Author.Tests.{eq-eqb, ne_eqb}
use Rattle.plan.specs.Fields.{mapping_units, phich_groups, sequences_of}
use Rattle.plan.specs.declared.Cell.{Cell}

pub bytes-mul : (a b : ℕ) → a < 256 → b < 256 → a * b ≤ 65025
bytes-mul a b ha hb = mul-le-mul {n₂ = 255} {m₂ = 255} (omega arith) (omega arith)

pub units-fit : (c : Cell) → c.sixths < 256 → c.blocks < 256 → mapping_units c ≤ 1355
unfolding mapping_units
units-fit c h k = omega (arith, bytes-mul c.sixths c.blocks h k)

module _ (c : Cell) (u : ℕ) (eu : u ≡ mapping_units c) where
  pub groups-extended : c.prefix ≡ 1 → 2 * u ≡ phich_groups c
  unfolding phich_groups
  groups-extended e = rw (eu, eq-eqb _ _ e) refl

  pub groups-normal : (c.prefix ≡ 1 → ⊥) → u ≡ phich_groups c
  unfolding phich_groups
  groups-normal e = rw (ne_eqb c.prefix 1 e) eu

pub sequences-extended : (c : Cell) → c.prefix ≡ 1 → 4 ≡ sequences_of c
unfolding sequences_of
sequences-extended c e = rw (eq-eqb c.prefix 1 e) refl

pub sequences-normal : (c : Cell) → (c.prefix ≡ 1 → ⊥) → 8 ≡ sequences_of c
unfolding sequences_of
sequences-normal c e = rw (ne_eqb c.prefix 1 e) refl
