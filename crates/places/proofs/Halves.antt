-- Half blocks: which of six subcarriers of a row an owner has. Assumes a control region of one symbol or more.
use Prim.Native.Nat.{ℕ, suc, ◌+◌, ◌*◌, ◌%◌, ◌≤◌, ◌<◌}
use mathlib.Core.Path.{◌≡◌, refl, ap₂, ◌∙◌}
use mathlib.Core.Bool.{Bool, true, false, not, ◌&&◌, and-false}
use mathlib.Core.List.{List}
use native.Mathlib.Omega.{arith}
use lib.Dec.{leb}
use borrow.Author.Tests.{le-leb, leb-true}
use Rattle.std.specs.declared.result.Result.TheVariants.{Ok as accepted}
use Rattle.base.proofs.Passing.{passes_same}
use Rattle.base.proofs.Tests.{by-test, same_test}
use Rattle.plan.specs.Check.{check_of}
use Rattle.plan.specs.CommandLists.{users_of}
use Rattle.plan.specs.declared.Cell.{Cell}
use Rattle.plan.specs.declared.Frame.{Frame}
use Rattle.plan.specs.declared.User.{User}
use Rattle.plan.specs.declared.Plan.{Plan}
use Rattle.plan.specs.Valid.{Valid}
use Rattle.plan.proofs.Valid.{valid}
use Rattle.layout.specs.Rules.{slot_of, stands_at, crs_of, crs_below, crs_any, middle, centre, in_sync_area, in_pbch_area, pbch}
use Rattle.plan.specs.Fields.{control_symbols}
use Rattle.layout.specs.Owners.{blocks_have, user_rule, free, fixed_rule, owns}
use Rattle.layout.specs.Chain.{user_has}
use Rattle.layout.specs.declared.Owner.TheVariants.{Pbch, User as UserOf}
use Rattle.layout.proofs.ControlRegion.{AfterRegion, after-region}
use Rattle.counts.proofs.UserElements.{area-free}
use Rattle.places.specs.Halves.{without, open_place, open_of_four, in_pbch, taken_half, open_to}

-- ---- tests that six subcarriers share
leb-same : (a b c d : ℕ) → (a ≤ b → c ≤ d) → (c ≤ d → a ≤ b) → leb a b ≡ leb c d
leb-same a b c d f g = same_test (leb a b) (leb c d) (λ e. le-leb c d (f (leb-true a b e))) (λ e. le-leb a b (g (leb-true c d e)))

below-same : (c : Cell) (P s k j : ℕ) → k % 6 ≡ j % 6 → crs_below c P s k ≡ crs_below c P s j
unfolding crs_below crs_of stands_at
below-same c P s k j e = rw e refl

module _ (b r : ℕ) (in-r : r < 6) where
  blocks-six : (u : User) (n : ℕ) → blocks_have u n (6 * b + r) ≡ blocks_have u n (6 * b)
  unfolding blocks_have
  blocks-six u n =
      ap₂ ◌&&◌
      (leb-same (12 * u.first) (6 * b + r) (12 * u.first) (6 * b) (λ h. omega arith) (λ h. omega arith))
      (leb-same (suc (6 * b + r)) (12 * (u.first + u.count)) (suc (6 * b)) (12 * (u.first + u.count)) (λ h. omega arith) (λ h. omega arith))

  user-six : (us : List User) (i n : ℕ) → user_has us i n (6 * b + r) ≡ user_has us i n (6 * b)
  user-six us i n = passes_same (λ (u : User). blocks_have u n (6 * b + r)) (λ (u : User). blocks_have u n (6 * b)) (λ u. blocks-six u n) us i

  centre-six : (c : Cell) → centre c (6 * b + r) ≡ centre c (6 * b)
  unfolding middle
  centre-six c =
      let N = c.blocks in
      ap₂ ◌&&◌
      (leb-same (6 * N) (6 * b + r + 36) (6 * N) (6 * b + 36) (λ h. omega arith) (λ h. omega arith))
      (leb-same (suc (6 * b + r)) (6 * N + 36) (suc (6 * b)) (6 * N + 36) (λ h. omega arith) (λ h. omega arith))

  sync-six : (c : Cell) (f : Frame) (s : ℕ) → in_sync_area c f s (6 * b + r) ≡ in_sync_area c f s (6 * b)
  unfolding in_sync_area
  sync-six c f s = rw (centre-six c) refl

  area-six : (c : Cell) (f : Frame) (s : ℕ) → in_pbch_area c f s (6 * b + r) ≡ in_pbch_area c f s (6 * b)
  unfolding in_pbch_area
  area-six c f s = rw (centre-six c) refl

  below-six : (c : Cell) (P s : ℕ) → crs_below c P s (6 * b + r) ≡ crs_below c P s r
  below-six c P s = below-same c P s (6 * b + r) r (omega arith)

-- ---- an owner's places in a half block
order : (x n t : Bool) → x && true && (n && t) ≡ x && true && t && n
order false n t = refl
order true true true = refl
order true true false = refl
order true false true = refl
order true false false = refl

lost : (x y f z v : Bool) → x && false && f ≡ y && false && z && v
lost x y f z v = simp and-false

-- PBCH's: those without reference signals of four ports, or none
pub pbch-half : (w : List ℕ) (p : Plan) (s b r : ℕ) → r < 6 → owns w p Pbch s (6 * b + r) ≡ in_pbch p.cell p.frame s b && open_of_four p.cell s r
unfolding owns fixed_rule pbch without
pbch-half w p s b r h = rw (area-six b r h p.cell p.frame s, below-six b r h p.cell 4 s) refl

module _ (w : List ℕ) (p : Plan) (ok : Valid w p) where
  free-half : (s b r : ℕ) → r < 6 → AfterRegion p.cell s → free p.cell p.frame s (6 * b + r) ≡ not (crs_any p.cell s r) && not (taken_half p.cell p.frame s b)
  unfolding taken_half
  free-half s b r h late =
      area-free p.cell p.frame s (6 * b + r) late
      ∙ rw (below-six b r h p.cell p.cell.ports s, sync-six b r h p.cell p.frame s, area-six b r h p.cell p.frame s) refl

  -- a user's: those without reference signals, or none
  user-half : (i s b r : ℕ) → r < 6 → owns w p (UserOf i) s (6 * b + r) ≡ open_to w p i s b && open_place p.cell s r
  unfolding owns user_rule open_to without
  user-half i s b r h =
      let u = user_has (users_of w p) i (slot_of p.cell s) in
      let n = not (crs_any p.cell s r) in
      let t = not (taken_half p.cell p.frame s b) in
      by-test (leb (control_symbols p.cell p.frame) s)
      (λ e. rw (e, user-six b r h (users_of w p) i (slot_of p.cell s), free-half s b r h (after-region w p ok s (leb-true (control_symbols p.cell p.frame) s e))) (order (u (6 * b)) n t))
      (λ e. rw e (lost (u (6 * b + r)) (u (6 * b)) (free p.cell p.frame s (6 * b + r)) t n))

-- a user's, under an accepted plan
pub user-places : (w : List ℕ) (p : Plan) → check_of w ≡ accepted p → (i s b r : ℕ) → r < 6 → owns w p (UserOf i) s (6 * b + r) ≡ open_to w p i s b && open_place p.cell s r
user-places w p ok = user-half w p (valid w p ok)
