-- THE PLACES OF AN AREA by their indices: each index below the count has a place of the area, and each place of the area its index.
-- Assumes nothing.
use Prim.Native.Nat.{ℕ, ◌<◌}
use mathlib.Core.Path.{◌≡◌}
use mathlib.Core.Bool.{true}
use Rattle.places.specs.Places.{places_of}
use Rattle.base.proofs.Counts.{cnt-lt, nth_of, nth-is}
use Rattle.areas.specs.declared.Area.{Area}
use Rattle.areas.specs.Areas.{area_at, area_count, area_index}
use Rattle.data_compare.specs.Symbols.{area_place}

module _ (a : Area) where
  pub place_in : (j : ℕ) → j < area_count a → area_place a j < places_of a.cell
  unfolding area_place area_count
  place_in j l = (nth-is (area_at a) (places_of a.cell) j l).1

  pub at_place : (j : ℕ) → j < area_count a → area_at a (area_place a j) ≡ true
  unfolding area_place area_count
  at_place j l = (nth-is (area_at a) (places_of a.cell) j l).0

  pub index_back : (j : ℕ) → j < area_count a → area_index a (area_place a j) ≡ j
  unfolding area_place area_count area_index
  index_back j l = (nth-is (area_at a) (places_of a.cell) j l).2

  pub place-back : (t : ℕ) → area_at a t ≡ true → t < places_of a.cell → area_place a (area_index a t) ≡ t
  unfolding area_place area_index
  place-back t is l = nth_of (area_at a) (places_of a.cell) t is l

  pub index_below : (t : ℕ) → area_at a t ≡ true → t < places_of a.cell → area_index a t < area_count a
  unfolding area_index area_count
  index_below t is l = cnt-lt (area_at a) t (places_of a.cell) is l
