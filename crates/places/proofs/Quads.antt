-- A group of any symbol has four places, and a channel of quads has just the places of its quads' groups, each once; index and place
-- undo each other. Assumes of a channel that its quads' symbols and groups are the grid's.
use Prim.Native.Nat.{ℕ, ◌+◌, ◌-◌, ◌*◌, ◌/◌, ◌%◌, ◌≤◌, ◌<◌}
use mathlib.Core.Path.{◌≡◌, refl, sym, ap, ap₂, ◌∙◌}
use mathlib.Core.Logic.{◌↔◌}
use mathlib.Core.Bool.{Bool, true, false, not, ◌&&◌, ◌||◌, and-true, and-false}
use native.Mathlib.Omega.{arith}
use lib.Dec.{T, eqb, ltb}
use lib.Ieee.Bits.{is_true}
use borrow.Author.Tests.{eq-eqb, ne_eqb, eqb-true, ltb-true}
use Rattle.base.specs.Choice.{indicator}
use Rattle.base.specs.Counts.{cnt, nth, which, Listed}
use Rattle.base.proofs.Computed.{all_below, below_at}
use Rattle.base.proofs.Counts.{cnt-none, cnt-add, cnt-same, cnt-skip, cnt-all, cnt-lt, nth_of, nth-is, which-is}
use Rattle.base.proofs.Tests.{both}
use Rattle.plan.specs.declared.Cell.{Cell}
use Rattle.plan.proofs.Listed.{and_left, and_right}
use Rattle.plan.specs.Fields.{group_size, symbol_groups}
use Rattle.layout.specs.Rules.{element_group, in_group}
use Rattle.layout.proofs.GroupShape.{by_size, group-below}
use Rattle.layout.specs.Owners.{symbols, carriers}
use Rattle.counts.proofs.Groups.{group-four}
use Rattle.places.specs.Quads.{group_has, quad_place, quad_index, quads_place, quads_index, InQuads}
use Rattle.places.specs.Places.{place_number, symbol_at, carrier_at, places_of}
use Rattle.places.proofs.Numbers.{place-symbol, place-carrier, place-both, place_inside, carrier-inside}

-- ---- a place of a group, in any symbol
module _ (c : Cell) (s t j : ℕ) (in-j : j < cnt (group_has c s t) (carriers c)) where
  place-has : group_has c s t (quad_place c s t j) ≡ true
  unfolding quad_place
  place-has = (nth-is (group_has c s t) (carriers c) j in-j).0

  carrier-place : quad_place c s t j < carriers c
  unfolding quad_place
  carrier-place = (nth-is (group_has c s t) (carriers c) j in-j).1

  place_in : in_group c s (quad_place c s t j) ≡ true
  unfolding group_has
  place_in = and_left (in_group c s (quad_place c s t j)) (eqb (element_group c s (quad_place c s t j)) t) place-has

  group-place : element_group c s (quad_place c s t j) ≡ t
  unfolding group_has
  group-place = eqb-true _ _ (and_right (in_group c s (quad_place c s t j)) (eqb (element_group c s (quad_place c s t j)) t) place-has)

  index-of-place : quad_index c s (quad_place c s t j) ≡ j
  unfolding quad_index quad_place
  index-of-place = ap (λ (x : ℕ). cnt (group_has c s x) (quad_place c s t j)) group-place ∙ (nth-is (group_has c s t) (carriers c) j in-j).2

module _ (c : Cell) (s k : ℕ) (in-k : k < carriers c) (kept : in_group c s k ≡ true) where
  own-group : group_has c s (element_group c s k) k ≡ true
  unfolding group_has
  own-group = both kept (eq-eqb (element_group c s k) (element_group c s k) refl)

  index_below : quad_index c s k < cnt (group_has c s (element_group c s k)) (carriers c)
  unfolding quad_index
  index_below = cnt-lt (group_has c s (element_group c s k)) k (carriers c) own-group in-k

  pub index-place : quad_place c s (element_group c s k) (quad_index c s k) ≡ k
  unfolding quad_place quad_index
  index-place = nth_of (group_has c s (element_group c s k)) (carriers c) k own-group in-k

-- ---- the four places of a group: all of four subcarriers, and of six all but two, v is C mod 3
abbrev keeps : ℕ → ℕ → ℕ → Bool
keeps z v r = eqb z 4 || not (eqb (r % 3) v)

module _ (c : Cell) (s : ℕ) where
  abbrev z : ℕ
  z = group_size c s

  kept_on : (v t r : ℕ) → keeps z v (z * t + r) ≡ keeps z v r
  kept_on v t r = by_size (λ (z : ℕ). keeps z v (z * t + r) ≡ keeps z v r) c s (let x : (6 * t + r) % 3 ≡ r % 3 = omega arith in rw x refl) refl

  group-on : (t r : ℕ) → r < z → (z * t + r) / z ≡ t
  group-on t r = by_size (λ (z : ℕ). r < z → (z * t + r) / z ≡ t) c s (λ l. omega arith) (λ l. omega arith)

  group-around : (t k : ℕ) → k / z ≡ t → (z * t ≤ k) × (k < z * t + z)
  group-around t k = by_size (λ (z : ℕ). k / z ≡ t → (z * t ≤ k) × (k < z * t + z)) c s (λ e. (omega arith, omega arith)) (λ e. (omega arith, omega arith))

  -- the groups fill the symbol: 12N is a multiple of six and of four
  last-group : (t : ℕ) → t < symbol_groups c s → z * t + z ≤ carriers c
  unfolding symbol_groups
  last-group t = by_size (λ (z : ℕ). t < carriers c / z → z * t + z ≤ carriers c) c s (λ l. omega arith) (λ l. omega arith)

  module _ (t : ℕ) (in-t : t < symbol_groups c s) where
    abbrev v : ℕ
    v = c.identity % 3

    in_size : (r : ℕ) → r < z → group_has c s t (z * t + r) ≡ keeps z v r
    unfolding group_has in_group element_group
    in_size r h = rw (kept_on v t r, eq-eqb _ _ (group-on t r h)) (and-true (keeps z v r))

    outside : (k : ℕ) → ((z * t ≤ k) × (k < z * t + z) → ⊥) → group_has c s t k ≡ false
    unfolding group_has element_group
    outside k n = rw (ne_eqb (k / z) t (λ e. n (group-around t k e))) (and-false (in_group c s k))

    up_to : (d : ℕ) → d ≤ z → cnt (group_has c s t) (z * t + d) ≡ cnt (keeps z v) d
    up_to d h =
        let y : 0 + z * t ≡ z * t = omega arith in
        let none : cnt (group_has c s t) (0 + z * t) ≡ cnt (group_has c s t) 0 = cnt-skip (group_has c s t) 0 (z * t) (λ k a b. outside k (λ e. omega (arith, e.0))) in
        cnt-add (group_has c s t) (z * t) d
        ∙ ap₂ ◌+◌ (ap (cnt (group_has c s t)) (sym y) ∙ none ∙ cnt-none (group_has c s t))
        (cnt-same (λ (r : ℕ). group_has c s t (z * t + r)) (keeps z v) d (λ r l. in_size r (omega arith)))
        ∙ (let x : 0 + cnt (keeps z v) d ≡ cnt (keeps z v) d = omega arith in x)

    pub four : cnt (group_has c s t) (carriers c) ≡ 4
    unfolding group_has
    four = group-four c s t in-t

pub index-small : (c : Cell) (s k : ℕ) → k < carriers c → in_group c s k ≡ true → quad_index c s k < 4
index-small c s k h e = omega (arith, index_below c s k h e, four c s (element_group c s k) (group-below c s k h))

module _ (c : Cell) (s t : ℕ) (in-t : t < symbol_groups c s) where
  module _ (j : ℕ) (in-j : j < 4) where
    small : j < cnt (group_has c s t) (carriers c)
    small = omega (arith, four c s t in-t)

    pub place-group : element_group c s (quad_place c s t j) ≡ t
    place-group = group-place c s t j small

    pub place_kept : in_group c s (quad_place c s t j) ≡ true
    place_kept = place_in c s t j small

    pub place-below : quad_place c s t j < carriers c
    place-below = carrier-place c s t j small

    pub place-index : quad_index c s (quad_place c s t j) ≡ j
    place-index = index-of-place c s t j small

  -- the j-th place by its offset r in the group: j of those below are kept, and so is r
  place-offset : (j r : ℕ) → r < group_size c s → keeps (group_size c s) (c.identity % 3) r ≡ true → cnt (keeps (group_size c s) (c.identity % 3)) r ≡ j → quad_place c s t j ≡ group_size c s * t + r
  unfolding quad_place
  place-offset j r l kept count =
      let z = group_size c s in
      ap (nth (group_has c s t) (carriers c)) (sym (up_to c s t in-t r (omega arith) ∙ count))
      ∙ nth_of (group_has c s t) (carriers c) (z * t + r) (in_size c s t in-t r l ∙ kept) (omega (arith, last-group c s t in-t))

  -- all of four subcarriers
  pub place-four : (j : ℕ) → j < 4 → group_size c s ≡ 4 → quad_place c s t j ≡ 4 * t + j
  place-four j l e =
      let all = keeps 4 (c.identity % 3) in
      let z : 0 + j ≡ j = omega arith in
      let count : cnt all j ≡ j = omega (arith, ap (cnt all) (sym z) ∙ cnt-all all 0 j (λ r a b. refl), cnt-none all) in
      place-offset j j (omega (arith, e)) (rw e refl) (rw e count) ∙ ap (λ (z : ℕ). z * t + j) e

-- and of six two of each three
unfoldable offset : ℕ → ℕ → ℕ
offset v j = 3 * (j / 2) + j % 2 + indicator (ltb v (j % 2 + 1))

abbrev offset_is : ℕ → ℕ → Bool
offset_is v j = eqb (cnt (keeps 6 v) (offset v j)) j && keeps 6 v (offset v j) && ltb (offset v j) 6

offsets : T (all_below (λ (v : ℕ). all_below (offset_is v) 4) 3)
unfolding cnt offset
offsets = tt

pub place-six : (c : Cell) (s t j : ℕ) → t < symbol_groups c s → j < 4 → group_size c s ≡ 6 → quad_place c s t j ≡ 6 * t + (3 * (j / 2) + j % 2 + indicator (ltb (c.identity % 3) (j % 2 + 1)))
unfolding offset
place-six c s t j in-t h e =
    let v = c.identity % 3 in
    let r = offset v j in
    let a = eqb (cnt (keeps 6 v) r) j in
    let i = is_true (offset_is v j) (below_at (offset_is v) 4 (below_at (λ (v : ℕ). all_below (offset_is v) 4) 3 offsets v (omega arith)) j h) in
    let ab = and_left (a && keeps 6 v r) (ltb r 6) i in
    let l : r < 6 = ltb-true r 6 (and_right (a && keeps 6 v r) (ltb r 6) i) in
    place-offset c s t in-t j r (omega (arith, e)) (rw e (and_right a (keeps 6 v r) ab)) (rw e (eqb-true _ _ (and_left a (keeps 6 v r) ab)))
    ∙ ap (λ (z : ℕ). z * t + r) e

position-is : (c : Cell) (n : ℕ) (symbol group : ℕ → ℕ) (s k : ℕ) → quad_index c s k < 4 → quads_index c n symbol group s k % 4 ≡ quad_index c s k
unfolding quads_index
position-is c n symbol group s k l = omega arith

-- ---- a channel of n quads: has holds of just their groups, which are of the grid's symbols and different
pub record QuadChannel (c : Cell) (n : ℕ) (symbol group : ℕ → ℕ) (has : ℕ → ℕ → Bool) : Type 0 where
  pub low : (i : ℕ) → i < n → symbol i < symbols c
  pub small : (i : ℕ) → i < n → group i < symbol_groups c (symbol i)
  pub has-group : (i : ℕ) → i < n → has (symbol i) (group i) ≡ true
  pub apart : (i j : ℕ) → i < n → j < n → symbol i ≡ symbol j → group i ≡ group j → i ≡ j
  pub some : (s g : ℕ) → has s g ≡ true → (i : ℕ) × (i < n) × (s ≡ symbol i) × (g ≡ group i)

module _ (c : Cell) (n : ℕ) (symbol group : ℕ → ℕ) (has : ℕ → ℕ → Bool) (gs : QuadChannel c n symbol group has) where
  abbrev pub quad_rule : ℕ → ℕ → Bool
  quad_rule s k = in_group c s k && has s (element_group c s k)

  -- quad i is the one whose group has the place
  abbrev is_quad : ℕ → ℕ → ℕ → Bool
  is_quad s k i = eqb s (symbol i) && eqb (element_group c s k) (group i)

  one-quad : (s k i : ℕ) → i < n → s ≡ symbol i → element_group c s k ≡ group i → which (is_quad s k) n ≡ i
  one-quad s k i l es eg =
      which-is (is_quad s k) n i l (both (eq-eqb s (symbol i) es) (eq-eqb (element_group c s k) (group i) eg))
      (λ j m e.
      let x = eqb-true s (symbol j) (and_left (eqb s (symbol j)) (eqb (element_group c s k) (group j)) e) in
      let y = eqb-true (element_group c s k) (group j) (and_right (eqb s (symbol j)) (eqb (element_group c s k) (group j)) e) in
      gs.apart j i m l (sym x ∙ es) (sym y ∙ eg))

  module _ (j : ℕ) (in-j : j < 4 * n) where
    abbrev S : ℕ
    S = symbol (j / 4)

    in-quad : j % 4 < 4
    in-quad = omega arith

    quad : j / 4 < n
    quad = omega arith

    of-group : element_group c S (quads_place c symbol group j) ≡ group (j / 4)
    unfolding quads_place
    of-group = place-group c S (group (j / 4)) (gs.small (j / 4) quad) (j % 4) in-quad

    inside : quads_place c symbol group j < carriers c
    unfolding quads_place
    inside = place-below c S (group (j / 4)) (gs.small (j / 4) quad) (j % 4) in-quad

    is-kept : in_group c S (quads_place c symbol group j) ≡ true
    unfolding quads_place
    is-kept = place_kept c S (group (j / 4)) (gs.small (j / 4) quad) (j % 4) in-quad

    owned : quad_rule S (quads_place c symbol group j) ≡ true
    owned = rw (is-kept, of-group) (gs.has-group (j / 4) quad)

    position : quad_index c S (quads_place c symbol group j) ≡ j % 4
    unfolding quads_place
    position = place-index c S (group (j / 4)) (gs.small (j / 4) quad) (j % 4) in-quad

    back : quads_index c n symbol group S (quads_place c symbol group j) ≡ j
    unfolding quads_index
    back = omega (arith, position, one-quad S (quads_place c symbol group j) (j / 4) quad refl of-group)

  module _ (s k : ℕ) (in-k : k < carriers c) (e : quad_rule s k ≡ true) where
    kept : in_group c s k ≡ true
    kept = and_left (in_group c s k) (has s (element_group c s k)) e

    found : (i : ℕ) × (i < n) × (s ≡ symbol i) × (element_group c s k ≡ group i)
    found = gs.some s (element_group c s k) (and_right (in_group c s k) (has s (element_group c s k)) e)

    which-one : which (is_quad s k) n ≡ found.0
    which-one = one-quad s k found.0 found.1 found.2 found.3

    below : quads_index c n symbol group s k < 4 * n
    unfolding quads_index
    below = omega (arith, which-one, found.1, index-small c s k in-k kept)

    quad-of-index : quads_index c n symbol group s k / 4 ≡ found.0
    unfolding quads_index
    quad-of-index = omega (arith, which-one, index-small c s k in-k kept)

    symbol-again : symbol (quads_index c n symbol group s k / 4) ≡ s
    symbol-again = ap symbol quad-of-index ∙ sym found.2

    again : quads_place c symbol group (quads_index c n symbol group s k) ≡ k
    unfolding quads_place
    again =
        let j = quads_index c n symbol group s k in
        ap₂ (λ (x y : ℕ). quad_place c x y (j % 4)) symbol-again (ap group quad-of-index ∙ sym found.3) ∙ ap (quad_place c s (element_group c s k)) position-again ∙ index-place c s k in-k kept
      where
        position-again : quads_index c n symbol group s k % 4 ≡ quad_index c s k
        position-again = position-is c n symbol group s k (index-small c s k in-k kept)

  -- the rule holds just at the places of the quads
  pub quads-exactly : (s k : ℕ) → k < carriers c → (quad_rule s k ≡ true) ↔ InQuads c n symbol group s k
  quads-exactly s k in-k = (to, from)
    where
      to : quad_rule s k ≡ true → InQuads c n symbol group s k
      to e =
          let f = found s k in-k e in
          let x = kept s k in-k e in
          (f.0, quad_index c s k, f.1, index-small c s k in-k x, f.2, sym (ap (λ (g : ℕ). quad_place c s g (quad_index c s k)) (sym f.3) ∙ index-place c s k in-k x))

      from : InQuads c n symbol group s k → quad_rule s k ≡ true
      from (i, j, a, b, es, ek) =
          let t : group i < symbol_groups c s = omega (arith, gs.small i a, ap (symbol_groups c) es) in
          rw (ek, place_kept c s (group i) t j b, place-group c s (group i) t j b) (ap (λ (x : ℕ). has x (group i)) es ∙ gs.has-group i a)

  -- ---- over the numbers of all places
  module _ (some_c : 0 < carriers c) where
    abbrev at : ℕ → ℕ
    at j = place_number c (symbol (j / 4)) (quads_place c symbol group j)

    abbrev index : ℕ → ℕ
    index t = quads_index c n symbol group (symbol_at c t) (carrier_at c t)

    symbol-at : (j : ℕ) → j < 4 * n → symbol_at c (at j) ≡ symbol (j / 4)
    symbol-at j h = place-symbol c (symbol (j / 4)) (quads_place c symbol group j) (inside j h)

    carrier-at : (j : ℕ) → j < 4 * n → carrier_at c (at j) ≡ quads_place c symbol group j
    carrier-at j h = place-carrier c (symbol (j / 4)) (quads_place c symbol group j) (inside j h)

    pub by-quads : (own : ℕ → Bool) → ((t : ℕ) → own t ≡ quad_rule (symbol_at c t) (carrier_at c t)) → Listed own (places_of c) (4 * n) at index
    by-quads own same =
        record {
          inside = λ j h. place_inside c (symbol (j / 4)) (quads_place c symbol group j) (gs.low (j / 4) (quad j h)) (inside j h);
          owned = λ j h. same (at j) ∙ ap₂ quad_rule (symbol-at j h) (carrier-at j h) ∙ owned j h;
          back = λ j h. ap₂ (quads_index c n symbol group) (symbol-at j h) (carrier-at j h) ∙ back j h;
          below = λ t h e. below (symbol_at c t) (carrier_at c t) (carrier-inside c some_c t) (sym (same t) ∙ e);
          again = λ t h e.
              let r = sym (same t) ∙ e in
              let l = carrier-inside c some_c t in
              ap₂ (place_number c) (symbol-again (symbol_at c t) (carrier_at c t) l r) (again (symbol_at c t) (carrier_at c t) l r) ∙ place-both c t;
        }

-- index 4i + j is the j-th place of quad i
pub quads-at :
    (c : Cell) (symbol group : ℕ → ℕ) (i j : ℕ) → j < 4
    → place_number c (symbol ((4 * i + j) / 4)) (quads_place c symbol group (4 * i + j)) ≡ place_number c (symbol i) (quad_place c (symbol i) (group i) j)
unfolding quads_place
quads-at c symbol group i j h =
    let d : (4 * i + j) / 4 ≡ i = omega arith in
    let r : (4 * i + j) % 4 ≡ j = omega arith in
    rw (d, r) refl
