-- THE LAW OF PLACES: under an accepted plan each owner's places are listed by place_of, each once, and index_of undoes it.
-- Assumes nothing beyond the plan check's answer.
use Prim.Native.Nat.{ℕ, ◌+◌, ◌*◌, ◌/◌, ◌≤◌, ◌<◌}
use mathlib.Core.Path.{◌≡◌, refl, sym, ◌∙◌, subst}
use mathlib.Core.Logic.{◌↔◌}
use mathlib.Core.Bool.{Bool, true, false, ◌&&◌}
use mathlib.Core.List.{List}
use native.Mathlib.Omega.{arith}
use lib.Dec.{ltb}
use borrow.Author.Tests.{lt-ltb, le-ltb, ltb-true, ltb-false}
use Rattle.std.specs.declared.result.Result.TheVariants.{Ok as accepted}
use Rattle.base.proofs.Tests.{by-test}
use Rattle.plan.specs.Check.{check_of}
use Rattle.plan.specs.Fields.{mapping_units}
use Rattle.plan.specs.declared.Cell.{Cell}
use Rattle.plan.specs.declared.Plan.{Plan}
use Rattle.layout.specs.Rules.{element_group, in_group, format_group, format_has, pcfich, quad_symbol, groups_left, quad_group, mapping_unit_has, phich}
use Rattle.layout.specs.Owners.{carriers, fixed_rule, owns}
use Rattle.layout.specs.declared.Owner.{Owner}
use Rattle.layout.specs.declared.Owner.TheVariants.{Crs, Sync, Pbch, Pcfich, Phich, User as UserOf, Held, Idle}
use Rattle.layout.proofs.Few.{blocks-least, blocks-most, sixths-most}
use Rattle.layout.proofs.Units.{units-fit}
use Rattle.layout.proofs.Groups.{left-most}
use Rattle.base.specs.Counts.{cnt, Listed}
use Rattle.places.specs.Quads.{quad_place, InQuads}
use Rattle.places.specs.Places.{place_number, symbol_at, carrier_at, places_of, owns_at, FillingOrder, ascending, place_order, place_by, index_by, place_of, index_of, PlacesListed}
use Rattle.base.proofs.Counts.{listed_nth, listed-none, listed-count}
use Rattle.places.proofs.Quads.{QuadChannel, by-quads, quads-exactly, quads-at}
use Rattle.places.proofs.Channels.{format-groups, unit-groups}
use Rattle.places.proofs.Elements.{count-is}

-- ---- the rule of a PHICH unit, at a place
module _ (c : Cell) where
  pub phich-is : (m s k : ℕ) → m < mapping_units c → phich c m s k ≡ in_group c s k && mapping_unit_has c m s (element_group c s k)
  unfolding phich
  phich-is m s k h = rw (lt-ltb m (mapping_units c) h) refl

  phich-none : (m s k : ℕ) → mapping_units c ≤ m → phich c m s k ≡ false
  unfolding phich
  phich-none m s k h = rw (le-ltb m (mapping_units c) h) refl

  pub pcfich-is : (s k : ℕ) → pcfich c s k ≡ in_group c s k && format_has c s (element_group c s k)
  unfolding pcfich
  pcfich-is s k = refl

-- index 4i + j of PCFICH and of a unit
module _ (w : List ℕ) (p : Plan) where
  pub pcfich-place : (i j : ℕ) → j < 4 → place_of w p Pcfich (4 * i + j) ≡ place_number p.cell 0 (quad_place p.cell 0 (format_group p.cell i) j)
  unfolding place_of place_by place_order
  pcfich-place i j h = quads-at p.cell (λ (i : ℕ). 0) (format_group p.cell) i j h

  pub phich-place :
      (m i j : ℕ) → j < 4
      → place_of w p (Phich m) (4 * i + j) ≡ place_number p.cell (quad_symbol p.cell i) (quad_place p.cell (quad_symbol p.cell i) (quad_group p.cell m i) j)
  unfolding place_of place_by place_order
  phich-place m i j h = quads-at p.cell (quad_symbol p.cell) (quad_group p.cell m) i j h

-- places that are listed are as many as the owner's count says
counted : (w : List ℕ) (p : Plan) (o : Owner) (m : ℕ) → Listed (owns_at w p o) (places_of p.cell) m (place_of w p o) (index_of w p o) → PlacesListed w p o
counted w p o m l = rw (sym (count-is w p o) ∙ listed-count m (owns_at w p o) (places_of p.cell) (place_of w p o) (index_of w p o) l) l

module _ (w : List ℕ) (p : Plan) (ok : check_of w ≡ accepted p) where
  pub some-carriers : 0 < carriers p.cell
  some-carriers = omega (arith, blocks-least w p ok)

  -- what the functions require
  units-third : (s : ℕ) → mapping_units p.cell ≤ groups_left p.cell s / 3
  units-third = units-fit p.cell (sixths-most w p ok) (blocks-least w p ok)

  pub ranges : (6 ≤ p.cell.blocks) × (2 * p.cell.blocks < 512) × (mapping_units p.cell < 256)
  ranges = (blocks-least w p ok, omega (arith, blocks-most w p ok), omega (arith, blocks-most w p ok, units-third 0, left-most p.cell (blocks-least w p ok) 0))

  pub pcfich-groups : QuadChannel p.cell 4 (λ (i : ℕ). 0) (format_group p.cell) (format_has p.cell)
  pcfich-groups = format-groups p.cell (blocks-least w p ok)

  pub phich-groups : (m : ℕ) → m < mapping_units p.cell → QuadChannel p.cell 3 (quad_symbol p.cell) (quad_group p.cell m) (mapping_unit_has p.cell m)
  phich-groups m h = unit-groups p.cell (blocks-least w p ok) units-third m h

  pcfich-at : (t : ℕ) → owns_at w p Pcfich t ≡ pcfich p.cell (symbol_at p.cell t) (carrier_at p.cell t)
  unfolding owns_at owns fixed_rule
  pcfich-at t = refl

  phich-at : (m t : ℕ) → owns_at w p (Phich m) t ≡ phich p.cell m (symbol_at p.cell t) (carrier_at p.cell t)
  unfolding owns_at owns fixed_rule
  phich-at m t = refl

  pcfich-listed : Listed (owns_at w p Pcfich) (places_of p.cell) 16 (place_of w p Pcfich) (index_of w p Pcfich)
  unfolding place_of index_of place_by index_by place_order
  pcfich-listed =
      by-quads p.cell 4 (λ (i : ℕ). 0) (format_group p.cell) (format_has p.cell) pcfich-groups some-carriers (owns_at w p Pcfich)
      (λ t. pcfich-at t ∙ pcfich-is p.cell (symbol_at p.cell t) (carrier_at p.cell t))

  phich-listed :
      (m : ℕ) → m < mapping_units p.cell
      → Listed (owns_at w p (Phich m)) (places_of p.cell) 12 (place_of w p (Phich m)) (index_of w p (Phich m))
  unfolding place_of index_of place_by index_by place_order
  phich-listed m h =
      by-quads p.cell 3 (quad_symbol p.cell) (quad_group p.cell m) (mapping_unit_has p.cell m) (phich-groups m h) some-carriers (owns_at w p (Phich m))
      (λ t. phich-at m t ∙ phich-is p.cell m (symbol_at p.cell t) (carrier_at p.cell t) h)

  no-unit : (m : ℕ) → mapping_units p.cell ≤ m → (t : ℕ) → owns_at w p (Phich m) t ≡ false
  no-unit m h t = phich-at m t ∙ phich-none p.cell m (symbol_at p.cell t) (carrier_at p.cell t) h

  ascending-listed : (o : Owner) → place_order p.cell o ≡ ascending → PlacesListed w p o
  unfolding place_of index_of place_by index_by
  ascending-listed o e =
      let own : ℕ → Bool = owns_at w p o in
      let n : ℕ = places_of p.cell in
      counted w p o (cnt own n)
      (subst (λ (x : FillingOrder). Listed own n (cnt own n) (place_by p.cell own x) (index_by p.cell own x)) (sym e) (listed_nth own n))

  unit-listed : (m : ℕ) → PlacesListed w p (Phich m)
  unit-listed m =
      by-test (ltb m (mapping_units p.cell))
      (λ e. counted w p (Phich m) 12 (phich-listed m (ltb-true m (mapping_units p.cell) e)))
      (λ e. counted w p (Phich m) 0 (listed-none (owns_at w p (Phich m)) (places_of p.cell) (place_of w p (Phich m)) (index_of w p (Phich m)) (no-unit m (ltb-false m (mapping_units p.cell) e))))

  -- THE LAW
  pub listed : (o : Owner) → PlacesListed w p o
  unfolding place_order
  listed (Crs q) = ascending-listed (Crs q) refl
  listed (Sync m) = ascending-listed (Sync m) refl
  listed Pbch = ascending-listed Pbch refl
  listed Pcfich = counted w p Pcfich 16 pcfich-listed
  listed (Phich m) = unit-listed m
  listed (UserOf i) = ascending-listed (UserOf i) refl
  listed Held = ascending-listed Held refl
  listed Idle = ascending-listed Idle refl

  -- THE LAW OF QUADS: PCFICH's rule holds just at the places of its four quads, a unit's at those of its three
  pub pcfich-exactly : (s k : ℕ) → k < carriers p.cell → (owns w p Pcfich s k ≡ true) ↔ InQuads p.cell 4 (λ (i : ℕ). 0) (format_group p.cell) s k
  unfolding owns fixed_rule pcfich
  pcfich-exactly s k in-k = quads-exactly p.cell 4 (λ (i : ℕ). 0) (format_group p.cell) (format_has p.cell) pcfich-groups s k in-k

  pub phich-exactly :
      (m : ℕ) → m < mapping_units p.cell → (s k : ℕ) → k < carriers p.cell
      → (owns w p (Phich m) s k ≡ true) ↔ InQuads p.cell 3 (quad_symbol p.cell) (quad_group p.cell m) s k
  unfolding owns fixed_rule
  phich-exactly m h s k in-k =
      let e = phich-is p.cell m s k h in
      let q = quads-exactly p.cell 3 (quad_symbol p.cell) (quad_group p.cell m) (mapping_unit_has p.cell m) (phich-groups m h) s k in-k in
      (λ x. q.0 (sym e ∙ x), λ x. e ∙ q.1 x)
