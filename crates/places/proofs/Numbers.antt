-- The place number and its inverse. Assumes only that the grid is not empty.
use Prim.Native.Nat.{ℕ, suc, ◌≤◌, ◌<◌}
use mathlib.Core.Path.{◌≡◌, ap₂}
use mathlib.Core.List.{List}
use native.Mathlib.Nat.{div-add-mod', mod-lt, div-lt_iff_lt-mul, mul-le-mul_right}
use native.Mathlib.Omega.{arith}
use Rattle.base.proofs.Rows.{at-div, at-mod, row_inside}
use Rattle.plan.specs.declared.Cell.{Cell}
use Rattle.plan.specs.declared.Plan.{Plan}
use Rattle.layout.specs.Owners.{symbols, carriers, owns}
use Rattle.layout.specs.declared.Owner.{Owner}
use Rattle.layout.proofs.Pilot.{slot-length}
use Rattle.places.specs.Places.{place_number, symbol_at, carrier_at, places_of, owns_at}

module _ (c : Cell) where
  -- "S = 14 symbols (extended 12)"
  pub symbols-most : symbols c ≤ 14
  symbols-most = omega (arith, slot-length c)

  pub symbols-least : 12 ≤ symbols c
  symbols-least = omega (arith, slot-length c)

  pub place-symbol : (s k : ℕ) → k < carriers c → symbol_at c (place_number c s k) ≡ s
  place-symbol s k h = at-div s (carriers c) k h

  pub place-carrier : (s k : ℕ) → k < carriers c → carrier_at c (place_number c s k) ≡ k
  place-carrier s k h = at-mod s (carriers c) k h

  pub place-both : (t : ℕ) → place_number c (symbol_at c t) (carrier_at c t) ≡ t
  place-both t = div-add-mod' t (carriers c)

  pub place_inside : (s k : ℕ) → s < symbols c → k < carriers c → place_number c s k < places_of c
  place_inside s k h l = omega (arith, row_inside s (symbols c) (carriers c) (suc k) h l)

  module _ (some : 0 < carriers c) (t : ℕ) where
    pub carrier-inside : carrier_at c t < carriers c
    carrier-inside = mod-lt t some

    pub symbol-inside : t < places_of c → symbol_at c t < symbols c
    symbol-inside h = (div-lt_iff_lt-mul some).1 h

  pub first-row : carriers c ≤ places_of c
  first-row = let l : 1 ≤ symbols c = omega (arith, symbols-least) in omega (arith, mul-le-mul_right (carriers c) l)

-- the owner's rule at the number of (s, k)
pub owns-at : (w : List ℕ) (p : Plan) (o : Owner) (s k : ℕ) → k < carriers p.cell → owns_at w p o (place_number p.cell s k) ≡ owns w p o s k
unfolding owns_at
owns-at w p o s k h = ap₂ (owns w p o) (place-symbol p.cell s k h) (place-carrier p.cell s k h)
