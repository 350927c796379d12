-- THE AREAS' OWNERS: PBCH's area has the places that PBCH owns, a user's those that the user owns, in the same order and number; and both
-- lie in the grid. Assumes nothing beyond the plan check's answer.
use Prim.Native.Nat.{ℕ, suc, ◌+◌, ◌-◌, ◌*◌, ◌/◌, ◌%◌, ◌≤◌, ◌<◌}
use mathlib.Core.Path.{◌≡◌, refl, sym, ap, ap₂, ◌∙◌}
use mathlib.Core.Bool.{Bool, true, false, not, ◌&&◌}
use mathlib.Core.List.{List}
use native.Mathlib.Omega.{arith}
use lib.Dec.{leb, ltb}
use lib.ListN.{length, get_or}
use borrow.Author.Tests.{lt-ltb, eq-eqb}
use Rattle.std.specs.declared.result.Result.TheVariants.{Ok as accepted}
use Rattle.modulation.specs.Symbols.{Order}
use Rattle.plan.specs.Check.{check_of}
use Rattle.plan.specs.CommandLists.{users_of}
use Rattle.plan.specs.Valid.{UserIn}
use Rattle.plan.specs.declared.User.{User}
use Rattle.plan.specs.declared.Plan.{Plan}
use Rattle.plan.proofs.Counts.{blocks-least}
use Rattle.plan.proofs.Listed.{every-at}
use Rattle.plan.proofs.Valid.{valid}
use Rattle.layout.specs.Rules.{slot_length, slot_of, middle, in_pbch_area as area_test}
use Rattle.plan.specs.Fields.{control_symbols}
use Rattle.layout.specs.Owners.{symbols, carriers, blocks_have, owns}
use Rattle.layout.specs.declared.Owner.TheVariants.{Pbch, User as UserOf}
use Rattle.layout.proofs.Pilot.{slot-length}
use Rattle.counts.specs.Counts.{count_of}
use Rattle.counts.proofs.UserElements.{has-at}
use Rattle.places.specs.Places.{symbol_at, carrier_at, places_of, owns_at, place_order, index_by, index_of}
use Rattle.places.proofs.Elements.{count-is}
use Rattle.places.specs.Halves.{open_place, open_of_four, in_pbch, taken_half, open_to}
use Rattle.base.proofs.Counts.{cnt-same}
use Rattle.places.proofs.Numbers.{symbol-inside}
use Rattle.places.proofs.Halves.{pbch-half, user-places}
use Rattle.grid.specs.Writing.{Room}
use Rattle.areas.specs.Areas.{area_has, area_at, area_count, area_index, pbch_area, user_area, AreaIn}
use Rattle.areas.proofs.AreaPlaces.{leb-same}

gathered : (a b x y o : Bool) → a && b && x && y && o && true ≡ (a && b && (x && y)) && o
gathered true true true true true = refl
gathered true true true true false = refl
gathered true true true false o = refl
gathered true true false y o = refl
gathered true false x y o = refl
gathered false b x y o = refl

regrouped : (a x y o t : Bool) → a && true && x && y && o && t ≡ ((x && y) && a && t) && o
regrouped true true true true true = refl
regrouped true true true true false = refl
regrouped true true true false true = refl
regrouped true true true false false = refl
regrouped true true false o t = refl
regrouped true false y o t = refl
regrouped false true true true t = refl
regrouped false true true false t = refl
regrouped false true false o t = refl
regrouped false false y o t = refl

module _ (w : List ℕ) (p : Plan) (ok : check_of w ≡ accepted p) where
  abbrev L : ℕ
  L = slot_length p.cell

  abbrev N : ℕ
  N = p.cell.blocks

  wide : 6 ≤ p.cell.blocks
  wide = blocks-least p.cell (valid w p ok).cell

  split : (k : ℕ) → 6 * (k / 6) + k % 6 ≡ k
  split k = omega arith

  pub pbch-at : p.frame.subframe ≡ 0 → (s k : ℕ) → area_has (pbch_area p.cell p.frame) s k ≡ owns w p Pbch s k
  unfolding area_has area_test middle
  pbch-at zero-th s k =
      gathered (leb L s) (ltb s (L + 4)) (leb (6 * (N - 6)) k) (ltb k (6 * (N + 6))) (open_of_four p.cell s (k % 6))
      ∙ ap (λ (t : Bool). t && open_of_four p.cell s (k % 6)) (ap₂ (λ (x y : Bool). leb L s && ltb s (L + 4) && (x && y)) low high ∙ inside)
      ∙ sym (pbch-half w p s (k / 6) (k % 6) (omega arith))
      ∙ ap (owns w p Pbch s) (split k)
    where
      low : leb (6 * (N - 6)) k ≡ leb (6 * N) (6 * (k / 6) + 36)
      low = leb-same (6 * (N - 6)) k (6 * N) (6 * (k / 6) + 36) (λ h. omega (arith, wide)) (λ h. omega (arith, wide))

      high : ltb k (6 * (N + 6)) ≡ ltb (6 * (k / 6)) (6 * N + 36)
      high = leb-same (suc k) (6 * (N + 6)) (suc (6 * (k / 6))) (6 * N + 36) (λ h. omega arith) (λ h. omega arith)

      inside : leb L s && ltb s (L + 4) && (leb (6 * N) (6 * (k / 6) + 36) && ltb (6 * (k / 6)) (6 * N + 36)) ≡ in_pbch p.cell p.frame s (k / 6)
      inside = rw (eq-eqb p.frame.subframe 0 zero-th) refl

  module _ (i : ℕ) (in-i : i < length (users_of w p)) (d : User) where
    abbrev u : User
    u = get_or (users_of w p) i d

    pub user-at : (s k : ℕ) → s < symbols p.cell → area_has (user_area p.cell p.frame u) s k ≡ owns w p (UserOf i) s k
    unfolding area_has open_to blocks_have
    user-at s k in-s =
        rw (lt-ltb s (symbols p.cell) in-s)
        (regrouped (leb (control_symbols p.cell p.frame) s) (leb (6 * (2 * u.first)) k) (ltb k (6 * (2 * (u.first + u.count)))) (open_place p.cell s (k % 6))
        (not (taken_half p.cell p.frame s (k / 6)))
        ∙ ap (λ (t : Bool). (t && leb (control_symbols p.cell p.frame) s && not (taken_half p.cell p.frame s (k / 6))) && open_place p.cell s (k % 6))
        (ap₂ ◌&&◌ low high ∙ sym (has-at d (users_of w p) i (slot_of p.cell s) (6 * (k / 6)) in-i))
        ∙ sym (user-places w p ok i s (k / 6) (k % 6) (omega arith))
        ∙ ap (owns w p (UserOf i) s) (split k))
      where
        low : leb (6 * (2 * u.first)) k ≡ leb (12 * u.first) (6 * (k / 6))
        low = leb-same (6 * (2 * u.first)) k (12 * u.first) (6 * (k / 6)) (λ h. omega arith) (λ h. omega arith)

        high : ltb k (6 * (2 * (u.first + u.count))) ≡ ltb (6 * (k / 6)) (12 * (u.first + u.count))
        high = leb-same (suc k) (6 * (2 * (u.first + u.count))) (suc (6 * (k / 6))) (12 * (u.first + u.count)) (λ h. omega arith) (λ h. omega arith)

  some : 0 < carriers p.cell
  some = omega (arith, wide)

  -- the same places in ascending order have the same index
  pub pbch-place : p.frame.subframe ≡ 0 → (t : ℕ) → area_at (pbch_area p.cell p.frame) t ≡ owns_at w p Pbch t
  unfolding area_at owns_at
  pbch-place z t = pbch-at z (symbol_at p.cell t) (carrier_at p.cell t)

  pub pbch-index : p.frame.subframe ≡ 0 → (t : ℕ) → area_index (pbch_area p.cell p.frame) t ≡ index_of w p Pbch t
  unfolding area_index index_of index_by place_order
  pbch-index z t = cnt-same (area_at (pbch_area p.cell p.frame)) (owns_at w p Pbch) t (λ x l. pbch-place z x)

  pub user-place :
      (i : ℕ) → i < length (users_of w p) → (d : User) (t : ℕ) → t < places_of p.cell
      → area_at (user_area p.cell p.frame (get_or (users_of w p) i d)) t ≡ owns_at w p (UserOf i) t
  unfolding area_at owns_at
  user-place i in-i d t l = user-at i in-i d (symbol_at p.cell t) (carrier_at p.cell t) (symbol-inside p.cell some t l)

  pub user-index :
      (i : ℕ) → i < length (users_of w p) → (d : User) (t : ℕ) → t ≤ places_of p.cell
      → area_index (user_area p.cell p.frame (get_or (users_of w p) i d)) t ≡ index_of w p (UserOf i) t
  unfolding area_index index_of index_by place_order
  user-index i in-i d t l =
      cnt-same (area_at (user_area p.cell p.frame (get_or (users_of w p) i d))) (owns_at w p (UserOf i)) t (λ x k. user-place i in-i d x (omega arith))

  -- and they are as many
  pub pbch-count : p.frame.subframe ≡ 0 → area_count (pbch_area p.cell p.frame) ≡ count_of w p Pbch
  unfolding area_count
  pbch-count z = cnt-same (area_at (pbch_area p.cell p.frame)) (owns_at w p Pbch) (places_of p.cell) (λ t l. pbch-place z t) ∙ count-is w p Pbch

  pub user-count :
      (i : ℕ) → i < length (users_of w p) → (d : User) → area_count (user_area p.cell p.frame (get_or (users_of w p) i d)) ≡ count_of w p (UserOf i)
  unfolding area_count
  user-count i in-i d =
      cnt-same (area_at (user_area p.cell p.frame (get_or (users_of w p) i d))) (owns_at w p (UserOf i)) (places_of p.cell) (λ t l. user-place i in-i d t l)
      ∙ count-is w p (UserOf i)

  -- what filling them needs
  module _ (q : ℕ) (grid : List ℕ) (order : Order q) (room : Room p.cell.ports (places_of p.cell) grid) where
    pub pbch-in : AreaIn (pbch_area p.cell p.frame) q grid
    pbch-in =
        record {
          cell = (valid w p ok).cell;
          frame = (valid w p ok).frame;
          rows = omega (arith, slot-length p.cell);
          halves = omega (arith, wide);
          order = order;
          room = room;
        }

    pub user-in : (i : ℕ) → i < length (users_of w p) → (d : User) → AreaIn (user_area p.cell p.frame (get_or (users_of w p) i d)) q grid
    user-in i in-i d =
        record {
          cell = (valid w p ok).cell;
          frame = (valid w p ok).frame;
          rows = omega arith;
          halves = let h = (every-at (UserIn p.cell) d (users_of w p) i (valid w p ok).users in-i).last in omega arith;
          order = order;
          room = room;
        }
