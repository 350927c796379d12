-- An owner whose rule holds at a place is the one that owner_at names, and that one's rule holds. Owner by owner: no two owners are
-- compared. Assumes nothing.
use Rattle.std.specs.Prelude.{if◌then◌else◌}
use Prim.Native.Nat.{ℕ, zero, suc, ◌+◌, ◌*◌, ◌/◌, ◌≤◌, ◌<◌}
use mathlib.Core.Path.{◌≡◌, refl, sym, ap, ◌∙◌}
use mathlib.Core.Bool.{Bool, true, false, ◌&&◌}
use mathlib.Core.List.{List}
use native.Mathlib.Omega.{arith}
use lib.Dec.{leb, ltb}
use lib.ListN.{length}
use borrow.Author.Tests.{le-ltb, le-leb, ltb-true, ltb-false, leb-true}
use Rattle.base.proofs.Tests.{by-test, clash, both, is_false, on-if}
use Rattle.base.proofs.Passing.{passes-inside}
use Rattle.base.specs.Tables.{table}
use Rattle.plan.specs.Lists.{none_of, Apart}
use Rattle.plan.specs.Fields.{control_symbols, mapping_units}
use Rattle.plan.specs.CommandLists.{users_of}
use Rattle.plan.specs.Valid.{Has, Disjoint}
use Rattle.plan.specs.declared.Cell.{Cell}
use Rattle.plan.specs.declared.Frame.{Frame}
use Rattle.plan.specs.declared.User.{User}
use Rattle.plan.specs.declared.Plan.{Plan}
use Rattle.plan.proofs.Listed.{and_left, and_right}
use Rattle.plan.proofs.Counts.{ports-most}
use Rattle.layout.specs.Rules.{slot_of, crs, crs_of}
use Rattle.layout.specs.Owners.{fixed_rule, above, free, blocks_have, user_rule, rest, owns, owners, owner_of}
use Rattle.layout.specs.Chain.{fixed_at, is_idle, user_from, owner_at, user_has}
use Rattle.layout.specs.declared.Mark.TheVariants.{Primary, Secondary}
use Rattle.layout.specs.declared.Owner.{Owner}
use Rattle.layout.specs.declared.Owner.TheVariants.{Crs, Sync, Pbch, Pcfich, Phich, User as UserOf, Held, Idle}
use Rattle.layout.proofs.Lists.{In, here, there, in_left, in_right, table-in, none_in, none-at, some_in, first-is, first-as, none-as}
use Rattle.layout.proofs.Units.{phich-parts}
use Rattle.layout.proofs.Fixed.{Fit, fixed-at, fixed-ok}

-- ---- the owners above the users
module _ (c : Cell) (f : Frame) (s k : ℕ) (fit : Fit c k) where
  port-small : (q : ℕ) → fixed_rule c f (Crs q) s k ≡ true → q < c.ports
  unfolding fixed_rule crs
  port-small q e = ltb-true _ _ (and_left (ltb q c.ports) (crs_of c q s k) e)

  unit-small : (m : ℕ) → fixed_rule c f (Phich m) s k ≡ true → m < mapping_units c
  unfolding fixed_rule
  unit-small m e = (phich-parts c m s k e).0

  port-in : (q : ℕ) → q < 4 → In (Crs q) (above c)
  unfolding above
  port-in zero l = here
  port-in (suc zero) l = there here
  port-in (suc (suc zero)) l = there (there here)
  port-in (suc (suc (suc zero))) l = there (there (there here))
  port-in (suc (suc (suc (suc q)))) l = absurd (let z : ⊥ = omega arith in z)

  -- an owner above the users that has the place stands in their list
  pub listed : (o : Owner) → fixed_rule c f o s k ≡ true → In o (above c)
  unfolding above fixed_rule
  listed (Crs q) e = port-in q (let z : q < 4 = omega (arith, port-small q e, ports-most c fit.cell) in z)
  listed (Sync Primary) e = there (there (there (there here)))
  listed (Sync Secondary) e = there (there (there (there (there here))))
  listed Pbch e = there (there (there (there (there (there here)))))
  listed Pcfich e = there (there (there (there (there (there (there here))))))
  listed Held e = there (there (there (there (there (there (there (there here)))))))
  listed (Phich m) e = there (there (there (there (there (there (there (there (there (table-in Phich (mapping_units c) m (unit-small m e))))))))))
  listed (UserOf i) e = clash e refl
  listed Idle e = clash e refl

  not_free : (o : Owner) → fixed_rule c f o s k ≡ true → free c f s k ≡ false
  unfolding free
  not_free o e = none_in (λ (o : Owner). fixed_rule c f o s k) (listed o e) e

  -- a place that none of them has
  pub free-idle : free c f s k ≡ true → is_idle (fixed_at c f s k) ≡ true
  free-idle e = by-test (is_idle (fixed_at c f s k)) (λ w. w) (λ w. clash e (not_free (fixed_at c f s k) (fixed-ok c f s k fit w)))

  pub not-idle : (o : Owner) → fixed_rule c f o s k ≡ true → is_idle o ≡ false
  unfolding fixed_rule is_idle
  not-idle (Crs q) e = refl
  not-idle (Sync m) e = refl
  not-idle Pbch e = refl
  not-idle Pcfich e = refl
  not-idle (Phich m) e = refl
  not-idle (UserOf i) e = clash e refl
  not-idle Held e = refl
  not-idle Idle e = clash e refl

-- ---- users: at most one has the block
pub has_block : (u : User) (n k : ℕ) → blocks_have u n k ≡ true → Has u (k / 12)
unfolding blocks_have
has_block u n k e =
    let a : 12 * u.first ≤ k = leb-true _ _ (and_left (leb (12 * u.first) k) (ltb k (12 * (u.first + u.count))) e) in
    let b : k < 12 * (u.first + u.count) = ltb-true _ _ (and_right (leb (12 * u.first) k) (ltb k (12 * (u.first + u.count))) e) in
    (omega arith, omega arith)

module _ (n k : ℕ) where
  abbrev test : User → Bool
  test u = blocks_have u n k

  one-user : (u v : User) → Disjoint u v → test u ≡ true → test v ≡ true → ⊥
  one-user u v d a b = d.blocks (k / 12) (has_block u n k a) (has_block v n k b)

  pub user-at : (us : List User) (b i : ℕ) → Apart Disjoint us → user_has us i n k ≡ true → user_from b us n k ≡ UserOf (b + i)
  unfolding user_from
  user-at us b i d e = first-as UserOf test Disjoint one-user us b i d e

  no-user-from : (us : List User) (b : ℕ) → ((i : ℕ) → i < length us → user_has us i n k ≡ false) → user_from b us n k ≡ Idle
  unfolding user_from
  no-user-from us b h = none-as UserOf test us b h

  pub has-index : (us : List User) (i : ℕ) → user_has us i n k ≡ true → i < length us
  has-index us i e = passes-inside test us i e

-- ---- all owners
module _ (w : List ℕ) (p : Plan) (s k : ℕ) (fit : Fit p.cell k) (disjoint : Apart Disjoint (users_of w p)) where
  abbrev c : Cell
  c = p.cell

  abbrev f : Frame
  f = p.frame

  abbrev us : List User
  us = users_of w p

  abbrev n : ℕ
  n = slot_of p.cell s

  abbrev region : ℕ
  region = control_symbols p.cell p.frame

  pub fixed-owner : (o : Owner) → fixed_rule c f o s k ≡ true → owner_at w p s k ≡ o
  unfolding owner_at
  fixed-owner o e =
      let z : fixed_at c f s k ≡ o = fixed-at c f s k fit o e in
      rw (z, not-idle c f s k fit o e) refl

  pub free-owner : free c f s k ≡ true → owner_at w p s k ≡ (if ltb s region then Idle else user_from 0 us n k)
  unfolding owner_at
  free-owner e = rw (free-idle c f s k fit e) refl

  pub user-parts : (i : ℕ) → user_rule w p i s k ≡ true → (user_has us i n k ≡ true) × (region ≤ s) × (free c f s k ≡ true)
  unfolding user_rule
  user-parts i e =
      let a = user_has us i n k in
      let b = leb region s in
      let ab : a && b ≡ true = and_left (a && b) (free c f s k) e in
      (and_left a b ab, leb-true _ _ (and_right a b ab), and_right (a && b) (free c f s k) e)

  pub user-owner : (i : ℕ) → user_rule w p i s k ≡ true → owner_at w p s k ≡ UserOf i
  user-owner i e =
      let t = user-parts i e in
      free-owner t.2 ∙ rw (le-ltb s region t.1) (user-at n k us 0 i disjoint t.0 ∙ ap UserOf (let z : 0 + i ≡ i = omega arith in z))

  idle-owner : rest w p s k ≡ true → owner_at w p s k ≡ Idle
  unfolding rest user_rule
  idle-owner e =
      let users = none_of (λ (i : ℕ). user_rule w p i s k) (table (length us) (λ (i : ℕ). i)) in
      let fr : free c f s k ≡ true = and_left (free c f s k) users e in
      free-owner fr ∙ on-if (λ (o : Owner). o ≡ Idle) (ltb s region) (λ x. refl)
      (λ x. no-user-from n k us 0 (λ i l. is_false (user_has us i n k)
      (λ h. clash (both (both h (le-leb region s (ltb-false _ _ x))) fr)
      (none-at (λ (i : ℕ). user_rule w p i s k) (and_right (free c f s k) users e) (table-in (λ (i : ℕ). i) (length us) i l)))))

  -- an owner whose rule holds is the one that owner_at names
  pub the-owner : (o : Owner) → owns w p o s k ≡ true → owner_at w p s k ≡ o
  unfolding owns fixed_rule
  the-owner (Crs q) e = fixed-owner (Crs q) e
  the-owner (Sync Primary) e = fixed-owner (Sync Primary) e
  the-owner (Sync Secondary) e = fixed-owner (Sync Secondary) e
  the-owner Pbch e = fixed-owner Pbch e
  the-owner Pcfich e = fixed-owner Pcfich e
  the-owner (Phich m) e = fixed-owner (Phich m) e
  the-owner Held e = fixed-owner Held e
  the-owner (UserOf i) e = user-owner i e
  the-owner Idle e = idle-owner e

  pub owns-fixed : (o : Owner) → fixed_rule c f o s k ≡ true → owns w p o s k ≡ true
  unfolding owns fixed_rule
  owns-fixed (Crs q) e = e
  owns-fixed (Sync Primary) e = e
  owns-fixed (Sync Secondary) e = e
  owns-fixed Pbch e = e
  owns-fixed Pcfich e = e
  owns-fixed (Phich m) e = e
  owns-fixed Held e = e
  owns-fixed (UserOf i) e = clash e refl
  owns-fixed Idle e = clash e refl

  some-owner : (o : Owner) × (owns w p o s k ≡ true)
  unfolding owns rest free
  some-owner =
      let users : ℕ → Bool = λ (i : ℕ). user_rule w p i s k in
      by-test (free c f s k)
      (λ e. by-test (none_of users (table (length us) (λ (i : ℕ). i)))
      (λ x. (Idle, both e x))
      (λ x. let u = some_in users (table (length us) (λ (i : ℕ). i)) x in (UserOf u.0, u.1)))
      (λ e. let o = some_in (λ (o : Owner). fixed_rule c f o s k) (above c) e in (o.0, owns-fixed o.0 o.1))

  -- the one that owner_at names has a rule that holds
  pub owned : owns w p (owner_at w p s k) s k ≡ true
  owned = let o = some-owner in rw (the-owner o.0 o.1) o.1

  -- an owner that has the place is one of the plan's owners
  pub in_owners : (o : Owner) → owns w p o s k ≡ true → In o (owners w p)
  unfolding owns fixed_rule owners
  in_owners (Crs q) e = there (in_left _ (listed c f s k fit (Crs q) e))
  in_owners (Sync Primary) e = there (in_left _ (listed c f s k fit (Sync Primary) e))
  in_owners (Sync Secondary) e = there (in_left _ (listed c f s k fit (Sync Secondary) e))
  in_owners Pbch e = there (in_left _ (listed c f s k fit Pbch e))
  in_owners Pcfich e = there (in_left _ (listed c f s k fit Pcfich e))
  in_owners (Phich m) e = there (in_left _ (listed c f s k fit (Phich m) e))
  in_owners Held e = there (in_left _ (listed c f s k fit Held e))
  in_owners (UserOf i) e = there (in_right (above c) (table-in UserOf (length us) i (has-index n k us i (user-parts i e).0)))
  in_owners Idle e = here

  pub owner_of_lem : owner_of w p s k ≡ owner_at w p s k
  unfolding owner_of
  owner_of_lem = first-is (λ (o : Owner). owns w p o s k) Idle (owner_at w p s k) (in_owners (owner_at w p s k) owned) owned (λ o e. sym (the-owner o e))
