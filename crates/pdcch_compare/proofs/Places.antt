-- THE PLACES OF THE BLOCK by the table of groups, and those of given elements by their indices. Assumes what comparing the block needs.
use Prim.Native.Nat.{ℕ, zero, suc, ◌+◌, ◌*◌, ◌/◌, ◌%◌, ◌≤◌, ◌<◌}
use mathlib.Core.Path.{◌≡◌, refl, sym, ap, ◌∙◌}
use mathlib.Core.Bool.{Bool, true, cond}
use mathlib.Core.List.{List}
use native.Mathlib.Decide.{ℕ_discrete, dec_le}
use native.Mathlib.Omega.{arith}
use lib.Dec.{eqb, ltb}
use lib.ListN.{get_or}
use borrow.Author.Tests.{le-ltb}
use Rattle.base.specs.Choice.{indicator}
use Rattle.base.specs.Counts.{cnt, nth, Listed}
use Rattle.base.proofs.Counts.{cnt-none, cnt-own, cnt-not, cnt-all, cnt-skip, cnt-lt, nth-is, nth_of, listed-count}
use Rattle.base.proofs.Tests.{both, by-test, clash}
use Rattle.plan.specs.Fields.{group_size, symbol_groups, region_groups, control_elements}
use Rattle.plan.specs.declared.Cell.{Cell}
use Rattle.plan.specs.declared.Frame.{Frame}
use Rattle.plan.proofs.Counts.{blocks-least}
use Rattle.plan.proofs.Listed.{and_left, and_right}
use Rattle.layout.specs.Rules.{element_group}
use Rattle.layout.specs.Owners.{carriers}
use Rattle.layout.specs.Region.{group_quad, block_symbol, block_group}
use Rattle.layout.proofs.GroupShape.{else-six}
use Rattle.layout.proofs.Block as block
use Rattle.places.specs.Places.{place_number, symbol_at, carrier_at, places_of}
use Rattle.places.specs.Quads.{quad_place}
use Rattle.places.proofs.Quads.{place-four, place-six, index-small}
use Rattle.places.proofs.Numbers.{carrier-inside}
use Rattle.precoding.specs.Places.{partner_index}
use Rattle.data_compare.proofs.Holding.{Placed}
use Rattle.pdcch.specs.Groups.{RegionOf, entry_of, GroupTable}
use Rattle.pdcch.specs.Block.{is_given, FromIn, block_has, given_at, block_index, block_place}
use Rattle.pdcch.proofs.Listing.{region-in, block_listed, has_kept}
use Rattle.pdcch.specs.Groups.{gap_of}
use Rattle.pdcch_compare.specs.Quads.{entry_place, table_place}

-- ---- a group's places by its entry
-- of six subcarriers: v is the identity modulo 3, k the place in its pair
six-gap : (v k : ℕ) → v < 3 → k < 2 → indicator (ltb v 1) + cond (eqb v 1) 2 1 * k ≡ k + indicator (ltb v (k + 1))
six-gap zero zero lv lk = refl
six-gap zero (suc zero) lv lk = refl
six-gap (suc zero) zero lv lk = refl
six-gap (suc zero) (suc zero) lv lk = refl
six-gap (suc (suc zero)) zero lv lk = refl
six-gap (suc (suc zero)) (suc zero) lv lk = refl
six-gap (suc (suc (suc v))) k lv lk = absurd (omega arith)
six-gap zero (suc (suc k)) lv lk = absurd (omega arith)
six-gap (suc zero) (suc (suc k)) lv lk = absurd (omega arith)
six-gap (suc (suc zero)) (suc (suc k)) lv lk = absurd (omega arith)

module _ (c : Cell) (s t k : ℕ) (in-t : t < symbol_groups c s) (in-k : k < 4) where
  abbrev at : ℕ → ℕ
  at j = place_number c s (quad_place c s t j)

  four-entry : group_size c s ≡ 4 → entry_of c s t ≡ 2 * at 0 + 1
  unfolding entry_of
  four-entry e = rw e refl

  six-entry : group_size c s ≡ 6 → entry_of c s t ≡ 2 * at 0
  unfolding entry_of
  six-entry e = rw e (omega arith)

  four-place : group_size c s ≡ 4 → entry_place c (2 * at 0 + 1) k ≡ at k
  unfolding entry_place gap_of
  four-place e =
      let a : (2 * at 0 + 1) / 2 ≡ at 0 = omega arith in
      let b : (2 * at 0 + 1) % 2 ≡ 1 = omega arith in
      rw (a, b) (omega (arith, place-four c s t in-t 0 (omega arith) e, place-four c s t in-t k in-k e))

  six-place : group_size c s ≡ 6 → entry_place c (2 * at 0) k ≡ at k
  unfolding entry_place gap_of
  six-place e =
      let a : (2 * at 0) / 2 ≡ at 0 = omega arith in
      let b : (2 * at 0) % 2 ≡ 0 = omega arith in
      let v = c.identity % 3 in
      let g : indicator (ltb v 1) + cond (eqb v 1) 2 1 * (k % 2) ≡ k % 2 + indicator (ltb v (k % 2 + 1)) = six-gap v (k % 2) (omega arith) (omega arith) in
      rw (a, b) (omega (arith, g, place-six c s t 0 in-t (omega arith) e, place-six c s t k in-t in-k e))

  pub entry_place_lem : entry_place c (entry_of c s t) k ≡ at k
  entry_place_lem = pick (ℕ_discrete (group_size c s) 4)
    where
      pick : Dec (group_size c s ≡ 4) → entry_place c (entry_of c s t) k ≡ at k
      pick (yes e) = ap (λ (x : ℕ). entry_place c x k) (four-entry e) ∙ four-place e
      pick (no n) = ap (λ (x : ℕ). entry_place c x k) (six-entry (else-six c s n)) ∙ six-place (else-six c s n)

-- THE LAW OF THE TABLE
module _ {c : Cell} {f : Frame} {table : List ℕ} (ok : RegionOf c f) (h : GroupTable c f table) where
  pub table-place : (j : ℕ) → j < 4 * region_groups c f → table_place c table j ≡ block_place c f j
  unfolding table_place block_place
  table-place j l =
      let q = j / 4 in
      let in-q : q < region_groups c f = omega arith in
      ap (λ (x : ℕ). entry_place c x (j % 4)) (h.entry q in-q)
      ∙ entry_place_lem c (block_symbol c f q) (block_group c f q) (j % 4) (block.block-small c f (region-in c f ok) q in-q) (omega arith)

  pub table-inside : (q : ℕ) → q < region_groups c f → entry_place c (get_or table q 0) 3 < places_of c
  unfolding table_place
  table-inside q l =
      let a : (4 * q + 3) / 4 ≡ q = omega arith in
      let b : (4 * q + 3) % 4 ≡ 3 = omega arith in
      let e : entry_place c (get_or table q 0) 3 ≡ block_place c f (4 * q + 3) = rw (a, b) at (table-place (4 * q + 3) (omega arith)) in
      omega (arith, e, (block_listed c f ok).inside (4 * q + 3) (omega arith))

-- ---- the places of given elements: an index below 36 for each element, 36 of them to an element
abbrev pub GivenIndex : Cell → Frame → List ℕ → ℕ → Type 0
GivenIndex c f from j = (j < 36 * control_elements c f) × (is_given from (j / 36) ≡ true)

abbrev pub given_place : Cell → Frame → List ℕ → ℕ → Bool
given_place c f from t = given_at c f from (symbol_at c t) (carrier_at c t)

module _ (c : Cell) (f : Frame) where
  pub index_in : (j : ℕ) → j < 36 * control_elements c f → j < 4 * region_groups c f
  unfolding control_elements
  index_in j l = omega arith

pub partner-given : (c : Cell) (f : Frame) (from : List ℕ) (j : ℕ) → GivenIndex c f from j → GivenIndex c f from (partner_index j)
partner-given c f from j (l, e) =
    let pair : partner_index j / 2 ≡ j / 2 = omega arith in
    let same = eighteen (partner_index j) ∙ ap (λ (x : ℕ). x / 18) pair ∙ sym (eighteen j) in
    (omega arith, rw same e)
  where
    -- 18 pairs to an element
    eighteen : (x : ℕ) → x / 36 ≡ x / 2 / 18
    eighteen x = omega arith

module _ {c : Cell} {f : Frame} {from : List ℕ} {bytes : ℕ} (ok : RegionOf c f) (h : FromIn c f from bytes) where
  abbrev own : ℕ → Bool
  own t = block_has c f (symbol_at c t) (carrier_at c t)

  abbrev quad_of : ℕ → ℕ
  quad_of t = group_quad c f (symbol_at c t) (element_group c (symbol_at c t) (carrier_at c t))

  -- the element of a place, by its index
  element-is : (t : ℕ) → own t ≡ true → quad_of t / 9 ≡ block_index c f t / 36
  unfolding block_index
  element-is t e =
      let s = symbol_at c t in
      let k = carrier_at c t in
      let some : 0 < carriers c = omega (arith, blocks-least c ok.cell) in
      let l = index-small c s k (carrier-inside c some t) (has_kept c f ok s k e) in
      omega arith

  was-own : (t : ℕ) → given_place c f from t ≡ true → own t ≡ true
  unfolding given_at
  was-own t e = and_left (own t) (is_given from (quad_of t / 9)) e

  was-given : (t : ℕ) → given_place c f from t ≡ true → is_given from (block_index c f t / 36) ≡ true
  unfolding given_at
  was-given t e = ap (is_given from) (sym (element-is t (was-own t e))) ∙ and_right (own t) (is_given from (quad_of t / 9)) e

  given-there : (j : ℕ) → GivenIndex c f from j → given_place c f from (block_place c f j) ≡ true
  unfolding given_at
  given-there j (l, e) =
      let o = (block_listed c f ok).owned j (index_in c f j l) in
      let b = (block_listed c f ok).back j (index_in c f j l) in
      both o (ap (is_given from) (element-is (block_place c f j) o ∙ ap (λ (x : ℕ). x / 36) b) ∙ e)

  pub given-few : (e : ℕ) → is_given from e ≡ true → e < control_elements c f
  given-few e t = pick (dec_le (control_elements c f) e)
    where
      pick : Dec (control_elements c f ≤ e) → e < control_elements c f
      pick (yes d) = clash t (le-ltb 0 (get_or from e 0) (omega (arith, h.none e d)))
      pick (no d) = omega arith

  index-given : (t : ℕ) → given_place c f from t ≡ true → GivenIndex c f from (block_index c f t)
  index-given t e = let l = given-few (block_index c f t / 36) (was-given t e) in (omega arith, was-given t e)

  -- THE LAW OF PLACES of the given elements
  pub given-places : Placed (given_place c f from) (places_of c) (GivenIndex c f from) (block_place c f) (block_index c f)
  given-places =
      record {
        inside = λ j a. (block_listed c f ok).inside j (index_in c f j a.0);
        owned = given-there;
        back = λ j a. (block_listed c f ok).back j (index_in c f j a.0);
        listed = λ t l e. index-given t e;
        again = λ t l e. (block_listed c f ok).again t l (was-own t e);
      }

-- ---- how many they are
placed-listed :
    {own is : ℕ → Bool} {T n : ℕ} {place index : ℕ → ℕ} → Placed own T (λ (j : ℕ). (j < n) × (is j ≡ true)) place index
    → Listed own T (cnt is n) (λ (i : ℕ). place (nth is n i)) (λ (t : ℕ). cnt is (index t))
placed-listed {own} {is} {T} {n} {place} {index} p =
    record {
      inside = λ i l. p.inside (nth is n i) (there i l);
      owned = λ i l. p.owned (nth is n i) (there i l);
      back = λ i l. ap (cnt is) (p.back (nth is n i) (there i l)) ∙ (nth-is is n i l).2;
      below = λ t l e. let a = p.listed t l e in cnt-lt is (index t) n a.1 a.0;
      again = λ t l e. let a = p.listed t l e in ap place (nth_of is n (index t) a.1 a.0) ∙ p.again t l e;
    }
  where
    there : (i : ℕ) → i < cnt is n → (nth is n i < n) × (is (nth is n i) ≡ true)
    there i l = let a = nth-is is n i l in (a.1, a.0)

-- 36 to an element
by-element : (is : ℕ → Bool) (m : ℕ) → cnt (λ (j : ℕ). is (j / 36)) (36 * m) ≡ 36 * cnt is m
by-element is zero = omega (arith, cnt-none (λ (j : ℕ). is (j / 36)), cnt-none is)
by-element is (suc m) =
    let z : 36 * suc m ≡ 36 * m + 36 = omega arith in
    ap (cnt (λ (j : ℕ). is (j / 36))) z
    ∙ by-test (is m)
    (λ e. omega (arith, by-element is m, cnt-own is m e, cnt-all (λ (j : ℕ). is (j / 36)) (36 * m) 36 (λ t a b. ap is (element t a b) ∙ e)))
    (λ e. omega (arith, by-element is m, cnt-not is m e, cnt-skip (λ (j : ℕ). is (j / 36)) (36 * m) 36 (λ t a b. ap is (element t a b) ∙ e)))
  where
    element : (t : ℕ) → 36 * m ≤ t → t < 36 * m + 36 → t / 36 ≡ m
    element t a b = omega arith

module _ {c : Cell} {f : Frame} {from : List ℕ} {bytes : ℕ} (ok : RegionOf c f) (h : FromIn c f from bytes) where
  pub given-count : cnt (given_place c f from) (places_of c) ≡ 36 * cnt (is_given from) (control_elements c f)
  given-count =
      listed-count (cnt (λ (j : ℕ). is_given from (j / 36)) (36 * control_elements c f)) (given_place c f from) (places_of c) _ _ (placed-listed (given-places ok h))
      ∙ by-element (is_given from) (control_elements c f)
