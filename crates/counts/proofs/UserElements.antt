-- THE LAW OF A USER'S COUNT: the number of its places, by its rule, is what `user_elements` computes. Assumes nothing but that the plan
-- check answers with the plan.
use Prim.Native.Nat.{ℕ, zero, suc, ◌+◌, ◌-◌, ◌*◌, ◌/◌, ◌%◌, ◌≤◌, ◌<◌}
use mathlib.Core.Path.{◌≡◌, refl, sym, ap, ◌∙◌}
use mathlib.Core.Bool.{Bool, true, false, not, ◌&&◌, ◌||◌, and-false}
use mathlib.Core.List.{List}
use native.Mathlib.Nat.{mul_comm}
use native.Mathlib.Omega.{arith}
use lib.Dec.{T, leb, ltb, eqb}
use lib.ListN.{length, get_or}
use borrow.Author.Tests.{lt-ltb, le-ltb, le-leb, lt-leb, ltb-true, ltb-false}
use Rattle.std.specs.declared.result.Result.TheVariants.{Ok as accepted}
use Rattle.base.proofs.Passing.{passes-is}
use Rattle.base.proofs.Tests.{by-test, clash}
use Rattle.base.specs.Tables.{table}
use Rattle.plan.specs.Lists.{none_of}
use Rattle.plan.specs.Fields.{control_symbols, mapping_units}
use Rattle.plan.specs.Check.{check_of}
use Rattle.plan.specs.CommandLists.{users_of}
use Rattle.plan.specs.Valid.{UserIn, Valid}
use Rattle.plan.specs.declared.Cell.{Cell}
use Rattle.plan.specs.declared.Frame.{Frame}
use Rattle.plan.specs.declared.User.{User}
use Rattle.plan.specs.declared.Plan.{Plan}
use Rattle.plan.proofs.Listed.{every-at}
use Rattle.plan.proofs.Valid.{valid}
use Rattle.base.specs.Choice.{indicator}
use Rattle.layout.specs.Rules.{slot_length, slot_of, crs, crs_below, crs_of_four, crs_any, marked, centre, used, pss, sss, in_sync_area, held_by_sync, in_pbch_area, pbch, held_by_pbch, held}
use Rattle.layout.specs.Owners.{symbols, carriers, fixed_rule, above, free, user_rule, blocks_have, owns}
use Rattle.layout.specs.Chain.{user_has}
use Rattle.layout.specs.declared.Owner.{Owner}
use Rattle.layout.specs.declared.Owner.TheVariants.{Phich, User as UserOf}
use Rattle.base.specs.Sums.{sum_to}
use Rattle.counts.specs.Counts.{count_of}
use Rattle.counts.specs.Users.{signals, taken, row_elements, user_elements}
use Rattle.counts.proofs.Logic.{by-table, agree, agreed}
use Rattle.base.proofs.Sums.{sum_same, sum-none, sum-times, by-six}
use Rattle.layout.proofs.Fixed.{used-centre}
use Rattle.layout.proofs.Pilot.{hits}
use Rattle.layout.proofs.ControlRegion.{AfterRegion, after-region}
use Rattle.counts.proofs.Signals.{Refs, refs, half-left}
use Rattle.counts.proofs.Halves.{within, central, blocks-half, centre-half, halves_are}

-- ---- which places no owner above the users has, after the control region
-- the tests of CRS (r0 to r3), of the marks' symbols (y and z, in a subframe with marks m), of the centre (c) and what is used of it (v),
-- of PBCH's area (a) and of the places that it skips (q), taken together
abbrev none_above : Bool → Bool → Bool → Bool → Bool → Bool → Bool → Bool → Bool → Bool → Bool → Bool
none_above r0 r1 r2 r3 m y z c v a q =
    not r0 && (not r1 && (not r2 && (not r3
    && (not (m && y && v) && (not (m && z && v) && (not (a && not q)
    && (not (m && (y || z) && c && not v || a && q && not (r0 || r1 || r2 || r3)) && true)))))))

abbrev told : Bool → Bool → Bool → Bool → Bool → Bool → Bool → Bool → Bool → Bool → Bool → Bool
told r0 r1 r2 r3 m y z c v a q =
    v && not c || agree (none_above r0 r1 r2 r3 m y z c v a q) (not (r0 || r1 || r2 || r3) && not (m && (y || z) && c || a))

unless : (b c x : Bool) → T (b && not c || x) → (b ≡ true → c ≡ true) → T x
unless false c x t h = t
unless true true x t h = t
unless true false x t h = clash (h refl) refl

joined : (r0 r1 r2 r3 m y z c v a q : Bool) → (v ≡ true → c ≡ true)
    → none_above r0 r1 r2 r3 m y z c v a q ≡ not (r0 || r1 || r2 || r3) && not (m && (y || z) && c || a)
joined r0 r1 r2 r3 m y z c v a q h = agreed _ _ (unless v c _ (by-table 11 told tt r0 r1 r2 r3 m y z c v a q) h)

spread : (x y c : Bool) → (x || y) && c ≡ x && c || y && c
spread x y c = agreed _ _ (by-table 3 (λ x y c. agree ((x || y) && c) (x && c || y && c)) tt x y c)

module _ (c : Cell) (f : Frame) (s k : ℕ) (late : AfterRegion c s) where
  no-units : (n : ℕ) (g : ℕ → ℕ) → none_of (λ (o : Owner). fixed_rule c f o s k) (table n (λ i. Phich (g i))) ≡ true
  unfolding none_of table fixed_rule
  no-units zero g = refl
  no-units (suc n) g = rw (late.no-unit k (g 0)) (no-units n (λ i. g (suc i)))

  -- no owner above the users: no reference signal, and neither the area of the marks nor PBCH's
  pub area-free : free c f s k ≡ not (crs_any c s k) && not (in_sync_area c f s k || in_pbch_area c f s k)
  unfolding free above none_of fixed_rule pss sss pbch held held_by_sync held_by_pbch crs_below crs in_sync_area
  area-free =
      let L = slot_length c in
      rw (late.no-format k, no-units (mapping_units c) (λ i. i))
      (joined (crs c 0 s k) (crs c 1 s k) (crs c 2 s k) (crs c 3 s k) (marked f) (eqb (s + 1) L) (eqb (s + 2) L) (centre c k) (used c k) (in_pbch_area c f s k) (crs_of_four c s k) (used-centre c k))

  -- so not the centre where it is taken
  late_free : free c f s k ≡ not (crs_any c s k) && not (taken c f s && centre c k)
  unfolding taken in_sync_area in_pbch_area
  late_free =
      let L = slot_length c in
      let t = eqb (s + 1) L || eqb (s + 2) L in
      let b = eqb f.subframe 0 && leb L s && ltb s (L + 4) in
      area-free ∙ ap (λ (x : Bool). not (crs_any c s k) && not x) (sym (spread (marked f && t) b (centre c k)))

-- ---- the user's rule in a symbol after the control region, by half block and k mod 6
pub has-at : (d : User) (us : List User) (i n k : ℕ) → i < length us → user_has us i n k ≡ blocks_have (get_or us i d) n k
has-at d us i n k l = passes-is (λ (u : User). blocks_have u n k) d us i l

shuffle : (a q z : Bool) → a && true && (not q && not z) ≡ a && not z && not q
shuffle a q z = agreed _ _ (by-table 3 (λ a q z. agree (a && true && (not q && not z)) (a && not z && not q)) tt a q z)

module _ (w : List ℕ) (p : Plan) (ok : Valid w p) (d : User) (i : ℕ) (li : i < length (users_of w p)) (s : ℕ) where
  abbrev N : ℕ
  N = p.cell.blocks

  abbrev u : User
  u = get_or (users_of w p) i d

  abbrev has : ℕ → Bool
  has b = within (2 * u.first) (2 * (u.first + u.count)) b && not (taken p.cell p.frame s && central p.cell b)

  abbrev Row : ℕ
  Row = sum_to (carriers p.cell) (λ k. indicator (user_rule w p i s k))

  early-row : s < control_symbols p.cell p.frame → Row ≡ row_elements p.cell p.frame u.first u.count s
  unfolding user_rule row_elements
  early-row l =
      rw (lt-ltb s (control_symbols p.cell p.frame) l)
      (sum-none (carriers p.cell) _ (λ k m. rw (lt-leb (control_symbols p.cell p.frame) s l, and-false) refl))

  module _ (late : control_symbols p.cell p.frame ≤ s) where
    at_place : (q : Refs p.cell p.cell.ports s) (h r k : ℕ) → r < 6 → k ≡ 6 * h + r
        → indicator (user_rule w p i s k) ≡ indicator (has h && not (hits q.u q.v q.x r))
    unfolding user_rule
    at_place q h r k l z =
        let x : k / 6 ≡ h = omega arith in
        let y : k % 6 ≡ r = omega arith in
        let n = slot_of p.cell s in
        let opens = late_free p.cell p.frame s k (after-region w p ok s late) in
        rw (has-at d (users_of w p) i n k li, blocks-half u n k, le-leb (control_symbols p.cell p.frame) s late, opens, q.held k, centre-half p.cell k, x, y)
        (ap indicator (shuffle (within (2 * u.first) (2 * (u.first + u.count)) h) (hits q.u q.v q.x r) (taken p.cell p.frame s && central p.cell h)))

    late-row : Row ≡ row_elements p.cell p.frame u.first u.count s
    unfolding row_elements
    late-row =
        let q = refs p.cell p.cell.ports s in
        let z : 12 * N ≡ 6 * (2 * N) = omega arith in
        let v = 6 - signals p.cell p.cell.ports s in
        rw (z, le-ltb s (control_symbols p.cell p.frame) late)
        (by-six (2 * N) _ (λ h r. indicator (has h && not (hits q.u q.v q.x r))) (λ h r k m l e. at_place q h r k l e)
        ∙ sum_same (2 * N) _ (λ h. indicator (has h) * v) (λ h m. half-left (has h) q.u q.v q.small ∙ ap (λ (x : ℕ). indicator (has h) * (6 - x)) q.sum)
        ∙ sum-times (2 * N) v (λ h. indicator (has h))
        ∙ ap (λ (x : ℕ). x * v) (halves_are p.cell u.first u.count (taken p.cell p.frame s) (every-at (UserIn p.cell) d (users_of w p) i ok.users li).last)
        ∙ mul_comm _ _)

  row : Row ≡ row_elements p.cell p.frame u.first u.count s
  row =
      by-test (ltb s (control_symbols p.cell p.frame))
      (λ e. early-row (ltb-true _ _ e))
      (λ e. late-row (ltb-false _ _ e))

-- THE LAW: user i's element count, for any d (there is a user i)
pub user-elements : (w : List ℕ) (p : Plan) → check_of w ≡ accepted p → (d : User) (i : ℕ) → i < length (users_of w p)
    → count_of w p (UserOf i) ≡ user_elements p.cell p.frame (get_or (users_of w p) i d).first (get_or (users_of w p) i d).count
unfolding count_of owns user_elements
user-elements w p e d i l = sum_same (symbols p.cell) _ _ (λ s m. row w p (valid w p e) d i l s)
