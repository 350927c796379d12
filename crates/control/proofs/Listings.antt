-- PCFICH's sixteen places and a PHICH unit's twelve, of any cell in its ranges: listed by their quads. Assumes nothing.
use Prim.Native.Nat.{ℕ, ◌+◌, ◌*◌, ◌/◌, ◌≤◌, ◌<◌}
use mathlib.Core.Path.{◌≡◌, sym, ap, ◌∙◌}
use native.Mathlib.Omega.{arith}
use Rattle.plan.specs.Fields.{mapping_units, symbol_groups}
use Rattle.plan.specs.Valid.{CellIn}
use Rattle.plan.specs.declared.Cell.{Cell}
use Rattle.plan.proofs.Counts.{blocks-least, sixths-most, units-most}
use Rattle.layout.specs.Rules.{format_group, format_has, pcfich, quad_symbol, quad_group, mapping_unit_has, phich}
use Rattle.layout.specs.Owners.{carriers}
use Rattle.layout.proofs.Units.{units-fit}
use Rattle.base.specs.Counts.{Listed}
use Rattle.places.specs.Quads.{quad_place, quad_index, quads_place}
use Rattle.places.specs.Places.{place_number, symbol_at, carrier_at, places_of}
use Rattle.places.proofs.Numbers as numbers
use Rattle.places.proofs.Numbers.{first-row}
use Rattle.places.proofs.Quads.{QuadChannel, place-below, place-index, by-quads, quads-at}
use Rattle.places.proofs.Channels.{format-groups, unit-groups}
use Rattle.places.proofs.Listing.{pcfich-is, phich-is}
use Rattle.control.specs.Control.{pcfich_index, phich_index}
use Rattle.control.specs.Pairs.{group_place}

-- the place of index 4i + k
pub place_at :
    (c : Cell) (symbol group : ℕ → ℕ) (j i k : ℕ) → 4 * i + k ≡ j → k < 4
    → place_number c (symbol (j / 4)) (quads_place c symbol group j) ≡ place_number c (symbol i) (quad_place c (symbol i) (group i) k)
place_at c symbol group j i k e h = ap (λ (j : ℕ). place_number c (symbol (j / 4)) (quads_place c symbol group j)) (sym e) ∙ quads-at c symbol group i k h

-- a place of a group of the first three symbols
pub place_inside : (c : Cell) (s g k : ℕ) → s < 3 → g < symbol_groups c s → k < 4 → place_number c s (quad_place c s g k) < places_of c
place_inside c s g k l h m = numbers.place_inside c s (quad_place c s g k) (omega (arith, numbers.symbols-least c)) (place-below c s g h k m)

-- two of them, side by side
pub pair_inside :
    (c : Cell) (s g h : ℕ) → s < 3 → g < symbol_groups c s → h < 2
    → (group_place c s g (2 * h) < places_of c) × (group_place c s g (2 * h + 1) < places_of c) × (group_place c s g (2 * h) ≡ group_place c s g (2 * h + 1) → ⊥)
pair_inside c s g h l m u = (place_inside c s g (2 * h) l m (omega arith), place_inside c s g (2 * h + 1) l m (omega arith), apart)
  where
    apart : group_place c s g (2 * h) ≡ group_place c s g (2 * h + 1) → ⊥
    apart q =
        let same : quad_place c s g (2 * h) ≡ quad_place c s g (2 * h + 1) = omega (arith, q) in
        let z : 2 * h ≡ 2 * h + 1 = sym (place-index c s g m (2 * h) (omega arith)) ∙ ap (quad_index c s) same ∙ place-index c s g m (2 * h + 1) (omega arith) in
        omega arith

module _ (c : Cell) (ok : CellIn c) where
  pub some-carriers : 0 < carriers c
  some-carriers = omega (arith, blocks-least c ok)

  pub some-places : 0 < places_of c
  some-places = omega (arith, some-carriers, first-row c)

  pub six : 6 ≤ c.blocks
  six = blocks-least c ok

  pub pcfich-groups : QuadChannel c 4 (λ (i : ℕ). 0) (format_group c) (format_has c)
  pcfich-groups = format-groups c six

  pub pcfich-listed :
      Listed (λ (t : ℕ). pcfich c (symbol_at c t) (carrier_at c t)) (places_of c) 16
      (λ (j : ℕ). place_number c 0 (quads_place c (λ (i : ℕ). 0) (format_group c) j)) (pcfich_index c)
  unfolding pcfich_index
  pcfich-listed =
      by-quads c 4 (λ (i : ℕ). 0) (format_group c) (format_has c) pcfich-groups some-carriers
      (λ (t : ℕ). pcfich c (symbol_at c t) (carrier_at c t)) (λ t. pcfich-is c (symbol_at c t) (carrier_at c t))

  module _ (m : ℕ) (in-m : m < mapping_units c) where
    pub unit-few : m < 256
    unit-few = omega (arith, units-most c ok)

    pub phich-groups : QuadChannel c 3 (quad_symbol c) (quad_group c m) (mapping_unit_has c m)
    phich-groups = unit-groups c six (units-fit c (sixths-most c ok) six) m in-m

    pub phich-listed :
        Listed (λ (t : ℕ). phich c m (symbol_at c t) (carrier_at c t)) (places_of c) 12
        (λ (j : ℕ). place_number c (quad_symbol c (j / 4)) (quads_place c (quad_symbol c) (quad_group c m) j)) (phich_index c m)
    unfolding phich_index
    phich-listed =
        by-quads c 3 (quad_symbol c) (quad_group c m) (mapping_unit_has c m) phich-groups some-carriers
        (λ (t : ℕ). phich c m (symbol_at c t) (carrier_at c t))
        (λ t. phich-is c m (symbol_at c t) (carrier_at c t) in-m)
