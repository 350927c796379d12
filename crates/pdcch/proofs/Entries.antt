-- The entry of a group: it gives the group's number in the set of those taken, and is 24 more with each block of twelve subcarriers. Assumes
-- a group of the symbol.
use Rattle.std.specs.Prelude.{if◌then◌else◌}
use Prim.Native.Nat.{ℕ, zero, suc, ◌+◌, ◌*◌, ◌/◌, ◌%◌, ◌≤◌, ◌<◌}
use mathlib.Core.Path.{◌≡◌, refl, sym, ap, ◌∙◌}
use native.Mathlib.Nat.{suc-mul, zero-mul}
use native.Mathlib.Omega.{arith}
use lib.Dec.{eqb, ltb}
use borrow.Author.Tests.{eqb-true, eqb-false}
use Rattle.base.specs.Choice.{indicator}
use Rattle.base.proofs.Tests.{by-test, on-if}
use Rattle.base.proofs.Rows.{row_inside}
use Rattle.plan.specs.Fields.{group_size, symbol_groups}
use Rattle.plan.specs.declared.Cell.{Cell}
use Rattle.layout.specs.Rules.{element_group}
use Rattle.layout.specs.Owners.{carriers}
use Rattle.layout.proofs.GroupShape.{by_size, else-six, group-below}
use Rattle.places.specs.Quads.{quad_place}
use Rattle.places.proofs.Quads.{place-below, place-four, place-six}
use Rattle.pdcch.specs.Groups.{entry_of}
use Rattle.pdcch.specs.Walk.{spot_of}

double : (s n : ℕ) → s * (12 * n) ≡ 2 * (s * (6 * n))
double zero n = omega (arith, zero-mul (12 * n), zero-mul (6 * n))
double (suc s) n = omega (arith, double s n, suc-mul s (12 * n), suc-mul s (6 * n))

module _ (c : Cell) (s : ℕ) where
  -- its first place is the first subcarrier or the second
  abbrev late : ℕ
  late = if eqb (group_size c s) 4 then 0 else indicator (ltb (c.identity % 3) 1)

  late-few : late ≤ 1
  late-few = on-if (λ (n : ℕ). n ≤ 1) (eqb (group_size c s) 4) (λ e. omega arith) (λ e. on-if (λ (n : ℕ). n ≤ 1) (ltb (c.identity % 3) 1) (λ d. omega arith) (λ d. omega arith))

  first-place : (t : ℕ) → t < symbol_groups c s → quad_place c s t 0 ≡ group_size c s * t + late
  first-place t l =
      by-test (eqb (group_size c s) 4)
      (λ e. let z = eqb-true (group_size c s) 4 e in rw e (place-four c s t l 0 (omega arith) z ∙ ap (λ (x : ℕ). x * t + 0) (sym z)))
      (λ e. let z : group_size c s ≡ 6 = else-six c s (eqb-false (group_size c s) 4 e) in
      let d = indicator (ltb (c.identity % 3) 1) in
      rw e (omega (arith, place-six c s t 0 l (omega arith) z, ap (λ (x : ℕ). x * t + d) z)))

  entry-late : (t : ℕ) → t < symbol_groups c s → entry_of c s t ≡ 2 * (s * carriers c + (group_size c s * t + late)) + (if eqb (group_size c s) 4 then 1 else 0)
  unfolding entry_of
  entry-late t l = rw (first-place t l) refl

  abbrev of_four : ℕ
  of_four = if eqb (group_size c s) 4 then 1 else 0

  one-of : of_four + 2 * late ≤ 2
  one-of = by-test (eqb (group_size c s) 4) (λ e. rw e (omega arith)) (λ e. let h = late-few in rw e (rw e at (two h)))
    where
      two : late ≤ 1 → 0 + 2 * late ≤ 2
      two h = omega arith

  pub entry-spot : (t : ℕ) → t < symbol_groups c s → entry_of c s t / 4 ≡ spot_of c s t
  entry-spot t l =
      let u = s * (6 * c.blocks) in
      let e : entry_of c s t ≡ 2 * (2 * u + (group_size c s * t + late)) + of_four = entry-late t l ∙ ap (λ (x : ℕ). 2 * (x + (group_size c s * t + late)) + of_four) (double s c.blocks) in
      let m : of_four + 2 * late ≤ 2 = one-of in
      ap (λ (x : ℕ). x / 4) e
      ∙ by_size (λ (z : ℕ). (2 * (2 * u + (z * t + late)) + of_four) / 4 ≡ u + z / 2 * t) c s (omega arith) (omega arith)

  pub group-in : (k : ℕ) → k < 12 * c.blocks → k / group_size c s < symbol_groups c s
  unfolding element_group
  group-in k l = group-below c s k l

  -- 24 more with each block of twelve subcarriers
  pub entry-on : (b k : ℕ) → k < 12 → b < c.blocks → entry_of c s ((12 * b + k) / group_size c s) ≡ entry_of c s (k / group_size c s) + 24 * b
  entry-on b k l u =
      let x : group_size c s * ((12 * b + k) / group_size c s) ≡ group_size c s * (k / group_size c s) + 12 * b =
      by_size (λ (z : ℕ). z * ((12 * b + k) / z) ≡ z * (k / z) + 12 * b) c s (omega arith) (omega arith) in
      omega (arith, entry-late ((12 * b + k) / group_size c s) (group-in (12 * b + k) (omega arith)), entry-late (k / group_size c s) (group-in k (omega arith)))

  pub entry-small : (t : ℕ) → t < symbol_groups c s → {L : ℕ} → s < L → L * carriers c ≤ 3600 → entry_of c s t < 7201
  unfolding entry_of
  entry-small t l {L = L} h few =
      let p : s * carriers c + suc (quad_place c s t 0) ≤ L * carriers c = row_inside s L (carriers c) (suc (quad_place c s t 0)) h (place-below c s t l 0 (omega arith)) in
      by-test (eqb (group_size c s) 4) (λ e. rw e (omega arith)) (λ e. rw e (omega arith))
