-- An owner that has a bit is one of the plan's owners. Assumes nothing.
use Rattle.std.specs.Prelude.{if◌then◌else◌}
use Prim.Native.Nat.{ℕ, zero, suc, ◌+◌, ◌*◌, ◌≤◌, ◌<◌}
use mathlib.Core.Path.{◌≡◌, refl, ap, subst}
use mathlib.Core.Bool.{Bool, true, false}
use mathlib.Core.List.Memᴰ
use mathlib.Core.List.{List, [], ◌∷◌, ◌++◌, Memᴰ}
use native.Mathlib.Nat.{not-suc-le-zero, le_of_suc-le-suc}
use native.Mathlib.Omega.{arith}
use lib.Dec.{ltb, eqb}
use lib.ListN.{length, length-append, get_or-eq_default}
use borrow.Author.Tests.{ltb-true, ltb-false, eqb-true}
use Rattle.base.specs.Tables.{table}
use Rattle.plan.specs.Lists.{Among, Every}
use Rattle.plan.specs.Fields.{mapping_units}
use Rattle.plan.specs.CommandLists.{his_of, users_of}
use Rattle.plan.specs.Valid.{HiIn, Valid}
use Rattle.plan.specs.declared.Cell.{Cell}
use Rattle.plan.specs.declared.Hi.{Hi}
use Rattle.plan.specs.declared.Plan.{Plan}
use Rattle.phich.specs.Spreading.{spread_length}
use Rattle.phich.specs.Units.{mapping_unit}
use Rattle.phich.proofs.Units.{hi-unit}
use Rattle.layout.specs.Owners.{above, owners}
use Rattle.layout.specs.declared.Owner.{Owner}
use Rattle.layout.specs.declared.Owner.TheVariants.{Crs, Sync, Pbch, Pcfich, Phich, User as UserOf, Held, Idle}
use Rattle.payload.specs.Sections.{start_of, span, section_bits}
use Rattle.payload.specs.Payload.{heads, sections}
use Rattle.payload.specs.Bits.{hi_bits, mapping_unit_bits, owner_bits}
use Rattle.payload.proofs.Sections.{Users, users-length}

table-member : {A : Type 0} (n : ℕ) (g : ℕ → A) (i : ℕ) → i < n → Memᴰ (g i) (table n g)
unfolding table
table-member zero g i h = absurd (not-suc-le-zero h)
table-member (suc n) g zero h = Memᴰ.head refl
table-member (suc n) g (suc i) h = Memᴰ.tail (table-member n (λ k. g (suc k)) i (le_of_suc-le-suc h))

-- a unit that has a bit is one of the cell's
unit-below : (c : Cell) (m b : ℕ) (hs : List Hi) (bs : List ℕ) → Every (HiIn c) hs → Among b (mapping_unit_bits (spread_length c) m hs bs) → m < mapping_units c
unfolding mapping_unit_bits
unit-below c m b [] bs h a = absurd a
unit-below c m b (g ∷ hs) [] h a = absurd a
unit-below c m b (g ∷ hs) (x ∷ bs) h a = pick (eqb (mapping_unit (spread_length c) g) m) refl a (unit-below c m b hs bs h.1)
  where
    rest : List ℕ
    rest = mapping_unit_bits (spread_length c) m hs bs

    pick : (t : Bool) → eqb (mapping_unit (spread_length c) g) m ≡ t → Among b (if t then x ∷ rest else rest) → (Among b rest → m < mapping_units c) → m < mapping_units c
    pick true e q ih = omega (arith, eqb-true (mapping_unit (spread_length c) g) m e, hi-unit c g h.0)
    pick false e q ih = ih q

-- no section, no bits
section-beyond : (ns : List ℕ) (i : ℕ) → length ns ≤ i → section_bits ns i ≡ []
unfolding section_bits span table
section-beyond ns i h = ap (λ (n : ℕ). span (8 * start_of ns i) n) (get_or-eq_default ns 0 h)

user-below : (w : List ℕ) (p : Plan) (i b : ℕ) → Among b (section_bits (sections w p) (length (heads p) + i)) → i < length (users_of w p)
unfolding sections
user-below w p i b a = pick (ltb i (length (users_of w p))) refl
  where
    pick : (t : Bool) → ltb i (length (users_of w p)) ≡ t → i < length (users_of w p)
    pick true e = ltb-true _ _ e
    pick false e =
        let l : length (heads p ++ Users w p) ≤ length (heads p) + i = omega (arith, ltb-false i (length (users_of w p)) e, length-append (heads p) (Users w p), users-length w p) in
        absurd (subst (λ (xs : List ℕ). Among b xs) (section-beyond (heads p ++ Users w p) (length (heads p) + i) l) a)

module _ (w : List ℕ) (p : Plan) where
  -- the units and the users come after the ten first owners
  abbrev Later : List Owner
  Later = table (mapping_units p.cell) Phich ++ table (length (users_of w p)) UserOf

  later : (o : Owner) → Memᴰ o Later → Memᴰ o (owners w p)
  unfolding owners above
  later o m = skip (skip (skip (skip (skip (skip (skip (skip (skip (skip m)))))))))
    where
      skip : {x : Owner} {xs : List Owner} → Memᴰ o xs → Memᴰ o (x ∷ xs)
      skip q = Memᴰ.tail q

  pbch-listed : Memᴰ Pbch (owners w p)
  unfolding owners above
  pbch-listed = skip (skip (skip (skip (skip (skip (skip (Memᴰ.head refl)))))))
    where
      skip : {x : Owner} {xs : List Owner} → Memᴰ Pbch xs → Memᴰ Pbch (x ∷ xs)
      skip q = Memᴰ.tail q

  pub listed : Valid w p → (o : Owner) (b : ℕ) → Among b (owner_bits w p o) → Memᴰ o (owners w p)
  unfolding owner_bits
  listed v Pbch b a = pbch-listed
  listed v (Phich m) b a =
      later (Phich m) (Memᴰ.append_left _ (table-member (mapping_units p.cell) Phich m (unit-below p.cell m b (his_of w p) (hi_bits w p) v.his a)))
  listed v (UserOf i) b a =
      later (UserOf i) (Memᴰ.append_right (table (mapping_units p.cell) Phich) (table-member (length (users_of w p)) UserOf i (user-below w p i b a)))
  listed v (Crs q) b a = absurd a
  listed v (Sync m) b a = absurd a
  listed v Pcfich b a = absurd a
  listed v Held b a = absurd a
  listed v Idle b a = absurd a
