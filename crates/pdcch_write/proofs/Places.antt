-- The places of a group by its entry in the table of groups. Assumes a group of the cell.
use Prim.Native.Nat.{ℕ, zero, suc, ◌+◌, ◌*◌, ◌/◌, ◌%◌, ◌≤◌, ◌<◌}
use mathlib.Core.Path.{◌≡◌, refl}
use mathlib.Core.Bool.{Bool, true, false, cond}
use native.Mathlib.Omega.{arith}
use lib.Dec.{eqb, ltb}
use borrow.Author.Tests.{eq-eqb, ne_eqb, eqb-true, eqb-false}
use Rattle.base.specs.Choice.{indicator}
use Rattle.base.proofs.Tests.{by-test}
use Rattle.plan.specs.Fields.{group_size, symbol_groups}
use Rattle.plan.specs.declared.Cell.{Cell}
use Rattle.layout.proofs.GroupShape.{else-six}
use Rattle.places.specs.Places.{place_number}
use Rattle.places.specs.Quads.{quad_place}
use Rattle.places.proofs.Quads.{place-four, place-six}
use Rattle.pdcch.specs.Groups.{entry_of, gap_of}
use Rattle.pdcch_write.specs.declared.GroupPairs.{GroupPairs}
use Rattle.pdcch_write.specs.Quads.{pairs_of}

-- what `pairs_of` gives
pub pairs-four : (e six : ℕ) {y : ℕ} → y ≡ e → y % 2 ≡ 1 → record { first = y / 2; second = y / 2 + 2; gap = 1 } ≡ pairs_of e six
unfolding pairs_of
pairs-four e six q o = rw (q, eq-eqb (e % 2) 1 (rw q at o)) refl

pub pairs-six : (e six : ℕ) {y : ℕ} → y ≡ e → (y % 2 ≡ 1 → ⊥) → record { first = y / 2; second = y / 2 + 3; gap = six } ≡ pairs_of e six
unfolding pairs_of
pairs-six e six q n = rw (q, ne_eqb (e % 2) 1 (λ o. n (rw q o))) refl

-- a group's four places
pub record FourPlaces (x : GroupPairs) (place : ℕ → ℕ) : Type 0 where
  pub one : x.first ≡ place 0
  pub two : x.first + x.gap ≡ place 1
  pub three : x.second ≡ place 2
  pub four : x.second + x.gap ≡ place 3
  pub some : 1 ≤ x.gap
  pub near : x.gap ≤ 2

-- the gap of six: the places of three subcarriers are all but the one whose remainder is v
gap-of : (v : ℕ) → v < 3 → indicator (ltb v 1) + cond (eqb v 1) 2 1 ≡ 1 + indicator (ltb v 2)
gap-of zero l = refl
gap-of (suc zero) l = refl
gap-of (suc (suc zero)) l = refl
gap-of (suc (suc (suc v))) l = absurd (omega arith)

module _ (c : Cell) (s t : ℕ) (in-t : t < symbol_groups c s) where
  abbrev place : ℕ → ℕ
  place j = place_number c s (quad_place c s t j)

  of_four : group_size c s ≡ 4 → FourPlaces (pairs_of (entry_of c s t) (gap_of c 0)) place
  unfolding entry_of
  of_four e =
      let z : entry_of c s t ≡ 2 * place 0 + 1 = rw (eq-eqb (group_size c s) 4 e) refl in
      let x = pairs-four (entry_of c s t) (gap_of c 0) refl (omega (arith, z)) in
      let a = place-four c s t in-t 0 (omega arith) e in
      let b = place-four c s t in-t 1 (omega arith) e in
      let d = place-four c s t in-t 2 (omega arith) e in
      let f = place-four c s t in-t 3 (omega arith) e in
      rw (← x)
      (record {
        one = omega (arith, z);
        two = omega (arith, z, a, b);
        three = omega (arith, z, a, d);
        four = omega (arith, z, a, f);
        some = omega arith;
        near = omega arith;
      })

  of-six : group_size c s ≡ 6 → (group_size c s ≡ 4 → ⊥) → FourPlaces (pairs_of (entry_of c s t) (gap_of c 0)) place
  unfolding entry_of gap_of
  of-six e n =
      let v = c.identity % 3 in
      let z : entry_of c s t ≡ 2 * place 0 + 0 = rw (ne_eqb (group_size c s) 4 n) refl in
      let x = pairs-six (entry_of c s t) (gap_of c 0) refl (λ o. omega (arith, z)) in
      let g : indicator (ltb v 1) + gap_of c 0 ≡ 1 + indicator (ltb v 2) = gap-of v (omega arith) in
      let a = place-six c s t 0 in-t (omega arith) e in
      let b = place-six c s t 1 in-t (omega arith) e in
      let d = place-six c s t 2 in-t (omega arith) e in
      let f = place-six c s t 3 in-t (omega arith) e in
      let k = gap-few (eqb v 1) in
      rw (← x)
      (record {
        one = omega (arith, z);
        two = omega (arith, z, a, b, g);
        three = omega (arith, z, a, d);
        four = omega (arith, z, a, f, g);
        some = k.0;
        near = k.1;
      })
    where
      gap-few : (b : Bool) → (1 ≤ cond b 2 1) × (cond b 2 1 ≤ 2)
      gap-few true = (omega arith, omega arith)
      gap-few false = (omega arith, omega arith)

  -- THE LAW OF THE TABLE
  pub group-places : FourPlaces (pairs_of (entry_of c s t) (gap_of c 0)) (λ (j : ℕ). place_number c s (quad_place c s t j))
  group-places =
      by-test (eqb (group_size c s) 4)
      (λ e. of_four (eqb-true (group_size c s) 4 e))
      (λ e. let n = eqb-false (group_size c s) 4 e in of-six (else-six c s n) n)
