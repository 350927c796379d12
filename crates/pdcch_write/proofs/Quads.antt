-- THE LAWS OF THE BLOCK'S QUADS: which elements quad q has, and what they hold; one quad more, and one control element more. Assumes a cell
-- and a frame of an accepted plan.
use Prim.Native.Nat.{ℕ, ◌+◌, ◌-◌, ◌*◌, ◌/◌, ◌%◌, ◌≤◌, ◌<◌}
use mathlib.Core.Path.{◌≡◌, refl, sym, ap, ap₂, ◌∙◌}
use mathlib.Core.Bool.{Bool, true, false, ◌&&◌, ◌||◌}
use mathlib.Core.Logic.{◌⊎◌, inl, inr, ⊎_elim}
use mathlib.Core.List.{List}
use native.Mathlib.Nat.{mod-lt}
use native.Mathlib.Decide.{dec_le}
use native.Mathlib.Omega.{arith}
use lib.Dec.{eqb, leb, ltb}
use lib.ListN.{get_or}
use borrow.Author.Tests.{eq-eqb, eqb-true, le-leb, leb-true, lt-ltb, ltb-true}
use Rattle.base.proofs.Rows.{at-div, at-mod}
use Rattle.base.proofs.Tests.{both, same_test, is_false, or_cases, or_left, or_right}
use Rattle.base.specs.declared.Pair.{Pair}
use Rattle.base.specs.Counts.{Listed}
use Rattle.precoding.specs.Places.{on_port, placed}
use Rattle.plan.specs.Fields.{region_groups}
use Rattle.plan.specs.declared.Cell.{Cell}
use Rattle.plan.specs.declared.Frame.{Frame}
use Rattle.plan.proofs.Counts.{blocks-least}
use Rattle.plan.proofs.Listed.{and_left, and_right}
use Rattle.layout.specs.Region.{block_symbol, block_group}
use Rattle.layout.proofs.Block as block
use Rattle.places.specs.Places.{place_number, symbol_at, carrier_at, places_of}
use Rattle.places.specs.Quads.{quad_place}
use Rattle.places.proofs.Numbers.{first-row}
use Rattle.grid.specs.Writing.{sends, sent_at}
use Rattle.pdcch.specs.Block.{block_has, block_index, block_place, block_with}
use Rattle.pdcch.proofs.Listing.{region-in, block_listed}
use Rattle.pdcch.specs.Groups.{GroupTable, RegionOf, gap_of}
use Rattle.pdcch_write.specs.declared.GroupPairs.{GroupPairs}
use Rattle.pdcch_write.specs.Quads.{pairs_of, pair_sends, quad_sends, PairValued}
use Rattle.pdcch_write.specs.Filling.{quads_send}
use Rattle.pdcch_write.proofs.Pairs.{spread}
use Rattle.pdcch_write.proofs.Places.{FourPlaces, group-places}

-- ---- tests
-- the quad of an index, by its four indices
of-quad : (x q : ℕ) → leb q (x / 4) && ltb (x / 4) (q + 1) ≡ (eqb x (4 * q + 3) || eqb x (4 * q + 2)) || (eqb x (4 * q + 1) || eqb x (4 * q))
of-quad x q = same_test (leb q (x / 4) && ltb (x / 4) (q + 1)) ((d || c) || (b || a)) there back
  where
    a : Bool
    a = eqb x (4 * q)

    b : Bool
    b = eqb x (4 * q + 1)

    c : Bool
    c = eqb x (4 * q + 2)

    d : Bool
    d = eqb x (4 * q + 3)

    pick : (x ≡ 4 * q) ⊎ ((x ≡ 4 * q + 1) ⊎ ((x ≡ 4 * q + 2) ⊎ (x ≡ 4 * q + 3))) → (d || c) || (b || a) ≡ true
    pick (inl e) = or_right (d || c) (b || a) (or_right b a (eq-eqb x (4 * q) e))
    pick (inr (inl e)) = or_right (d || c) (b || a) (or_left b a (eq-eqb x (4 * q + 1) e))
    pick (inr (inr (inl e))) = or_left (d || c) (b || a) (or_right d c (eq-eqb x (4 * q + 2) e))
    pick (inr (inr (inr e))) = or_left (d || c) (b || a) (or_left d c (eq-eqb x (4 * q + 3) e))

    which : q ≤ x / 4 → x / 4 < q + 1 → (x ≡ 4 * q) ⊎ ((x ≡ 4 * q + 1) ⊎ ((x ≡ 4 * q + 2) ⊎ (x ≡ 4 * q + 3)))
    which l h = one (dec_le x (4 * q)) (dec_le x (4 * q + 1)) (dec_le x (4 * q + 2))
      where
        one : Dec (x ≤ 4 * q) → Dec (x ≤ 4 * q + 1) → Dec (x ≤ 4 * q + 2) → (x ≡ 4 * q) ⊎ ((x ≡ 4 * q + 1) ⊎ ((x ≡ 4 * q + 2) ⊎ (x ≡ 4 * q + 3)))
        one (yes e) f g = inl (omega arith)
        one (no e) (yes f) g = inr (inl (omega arith))
        one (no e) (no f) (yes g) = inr (inr (inl (omega arith)))
        one (no e) (no f) (no g) = inr (inr (inr (omega arith)))

    there : leb q (x / 4) && ltb (x / 4) (q + 1) ≡ true → (d || c) || (b || a) ≡ true
    there h = pick (which (leb-true q (x / 4) (and_left (leb q (x / 4)) (ltb (x / 4) (q + 1)) h)) (ltb-true (x / 4) (q + 1) (and_right (leb q (x / 4)) (ltb (x / 4) (q + 1)) h)))

    in-quad : q ≤ x / 4 → x / 4 < q + 1 → leb q (x / 4) && ltb (x / 4) (q + 1) ≡ true
    in-quad l h = both (le-leb q (x / 4) l) (lt-ltb (x / 4) (q + 1) h)

    back : (d || c) || (b || a) ≡ true → leb q (x / 4) && ltb (x / 4) (q + 1) ≡ true
    back h =
        ⊎_elim
        (λ y. ⊎_elim (λ e. let z = eqb-true x (4 * q + 3) e in in-quad (omega arith) (omega arith)) (λ e. let z = eqb-true x (4 * q + 2) e in in-quad (omega arith) (omega arith)) (or_cases d c y))
        (λ y. ⊎_elim (λ e. let z = eqb-true x (4 * q + 1) e in in-quad (omega arith) (omega arith)) (λ e. let z = eqb-true x (4 * q) e in in-quad (omega arith) (omega arith)) (or_cases b a y))
        (or_cases (d || c) (b || a) h)

four-spread : (s a b c d : Bool) → s && ((a || b) || (c || d)) ≡ ((s && a) || (s && b)) || ((s && c) || (s && d))
four-spread true a b c d = refl
four-spread false a b c d = refl

-- one more in a row of numbers
row_more : (x q n : ℕ) → leb q x && ltb x (q + (n + 1)) ≡ (leb (q + n) x && ltb x (q + n + 1)) || (leb q x && ltb x (q + n))
row_more x q n =
    same_test (leb q x && ltb x (q + (n + 1))) ((leb (q + n) x && ltb x (q + n + 1)) || (leb q x && ltb x (q + n)))
    (λ h. split (leb-true q x (and_left (leb q x) (ltb x (q + (n + 1))) h)) (ltb-true x (q + (n + 1)) (and_right (leb q x) (ltb x (q + (n + 1))) h)) (dec_le (q + n) x))
    (λ h. ⊎_elim
    (λ y. join (omega (arith, leb-true (q + n) x (and_left (leb (q + n) x) (ltb x (q + n + 1)) y))) (omega (arith, ltb-true x (q + n + 1) (and_right (leb (q + n) x) (ltb x (q + n + 1)) y))))
    (λ y. join (leb-true q x (and_left (leb q x) (ltb x (q + n)) y)) (omega (arith, ltb-true x (q + n) (and_right (leb q x) (ltb x (q + n)) y))))
    (or_cases (leb (q + n) x && ltb x (q + n + 1)) (leb q x && ltb x (q + n)) h))
  where
    join : q ≤ x → x < q + (n + 1) → leb q x && ltb x (q + (n + 1)) ≡ true
    join l h = both (le-leb q x l) (lt-ltb x (q + (n + 1)) h)

    split : q ≤ x → x < q + (n + 1) → Dec (q + n ≤ x) → (leb (q + n) x && ltb x (q + n + 1)) || (leb q x && ltb x (q + n)) ≡ true
    split l h (yes e) = or_left (leb (q + n) x && ltb x (q + n + 1)) (leb q x && ltb x (q + n)) (both (le-leb (q + n) x e) (lt-ltb x (q + n + 1) (omega arith)))
    split l h (no e) = or_right (leb (q + n) x && ltb x (q + n + 1)) (leb q x && ltb x (q + n)) (both (le-leb q x l) (lt-ltb x (q + n) (omega arith)))

-- ---- the elements of a quad
module _ (c : Cell) (f : Frame) (ok : RegionOf c f) where
  abbrev P : ℕ
  P = c.ports

  abbrev T : ℕ
  T = places_of c

  abbrev own : ℕ → Bool
  own t = block_has c f (symbol_at c t) (carrier_at c t)

  abbrev index : ℕ → ℕ
  index e = block_index c f (e % T)

  abbrev sent : ℕ → Bool
  sent e = own (e % T) && sends P (index e / 2 % 2) (e / T)

  L : Listed own T (4 * region_groups c f) (block_place c f) (block_index c f)
  L = block_listed c f ok

  some-places : 0 < T
  some-places = omega (arith, blocks-least c ok.cell, first-row c)

  -- the element of one place
  alone : (j e : ℕ) → j < 4 * region_groups c f → sent e && eqb (index e) j ≡ sent_at P T (j / 2 % 2) (block_place c f j) e
  unfolding sent_at
  alone j e l =
      same_test (sent e && eqb (index e) j) (eqb (e % T) (block_place c f j) && sends P (j / 2 % 2) (e / T))
      (λ h. there (eqb-true (index e) j (and_right (sent e) (eqb (index e) j) h)) (and_left (sent e) (eqb (index e) j) h))
      (λ h. back (eqb-true (e % T) (block_place c f j) (and_left (eqb (e % T) (block_place c f j)) (sends P (j / 2 % 2) (e / T)) h))
      (and_right (eqb (e % T) (block_place c f j)) (sends P (j / 2 % 2) (e / T)) h))
    where
      there : index e ≡ j → sent e ≡ true → eqb (e % T) (block_place c f j) && sends P (j / 2 % 2) (e / T) ≡ true
      there i s =
          let o = and_left (own (e % T)) (sends P (index e / 2 % 2) (e / T)) s in
          let p : e % T ≡ block_place c f j = sym (L.again (e % T) (mod-lt e some-places) o) ∙ ap (block_place c f) i in
          both (eq-eqb (e % T) (block_place c f j) p) (ap (λ (x : ℕ). sends P (x / 2 % 2) (e / T)) (sym i) ∙ and_right (own (e % T)) (sends P (index e / 2 % 2) (e / T)) s)

      back : e % T ≡ block_place c f j → sends P (j / 2 % 2) (e / T) ≡ true → sent e && eqb (index e) j ≡ true
      back p s =
          let i : index e ≡ j = ap (block_index c f) p ∙ L.back j l in
          both (both (ap own p ∙ L.owned j l) (ap (λ (x : ℕ). sends P (x / 2 % 2) (e / T)) i ∙ s)) (eq-eqb (index e) j i)

  -- ---- the groups of the table
  module _ {groups : List ℕ} (table : GroupTable c f groups) (q : ℕ) (in-q : q < region_groups c f) where
    abbrev S : ℕ
    S = block_symbol c f q

    abbrev G : ℕ
    G = block_group c f q

    abbrev x : GroupPairs
    x = pairs_of (get_or groups q 0) (gap_of c 0)

    place_is : (i : ℕ) → i < 4 → place_number c S (quad_place c S G i) ≡ block_place c f (4 * q + i)
    unfolding block_place
    place_is i l =
        let d : (4 * q + i) / 4 ≡ q = omega arith in
        let r : (4 * q + i) % 4 ≡ i = omega arith in
        rw (d, r) refl

    places : FourPlaces x (λ (i : ℕ). block_place c f (4 * q + i))
    places =
        let h = group-places c S G (block.block-small c f (region-in c f ok) q in-q) in
        rw (table.entry q in-q)
        (record {
          one = h.one ∙ place_is 0 (omega arith);
          two = h.two ∙ place_is 1 (omega arith);
          three = h.three ∙ place_is 2 (omega arith);
          four = h.four ∙ place_is 3 (omega arith);
          some = h.some;
          near = h.near;
        })

    -- what `put_quad` requires of them
    pub quad-inside : (1 ≤ x.gap) × (x.gap ≤ 2) × (x.first + x.gap < T) × (x.second + x.gap < T)
    quad-inside = (
      places.some,
      places.near,
      omega (arith, places.two, L.inside (4 * q + 1) (omega arith)),
      omega (arith, places.four, L.inside (4 * q + 3) (omega arith)),
    )

    pub quad_is : (e : ℕ) → quads_send c f q 1 e ≡ quad_sends P T x e
    unfolding quads_send quad_sends pair_sends
    quad_is e =
        let z : 4 * q + 0 ≡ 4 * q = omega arith in
        ap (λ (b : Bool). sent e && b) (of-quad (index e) q)
        ∙ four-spread (sent e) (eqb (index e) (4 * q + 3)) (eqb (index e) (4 * q + 2)) (eqb (index e) (4 * q + 1)) (eqb (index e) (4 * q))
        ∙ ap₂ (λ (a b : Bool). a || b)
        (ap₂ (λ (a b : Bool). a || b) (at (4 * q + 3) 1 (x.second + x.gap) (omega arith) (omega arith) places.four)
        (at (4 * q + 2) 1 x.second (omega arith) (omega arith) places.three))
        (ap₂ (λ (a b : Bool). a || b) (at (4 * q + 1) 0 (x.first + x.gap) (omega arith) (omega arith) places.two)
        (at (4 * q) 0 x.first (omega arith) (omega arith) (places.one ∙ ap (block_place c f) z)))
      where
        at : (j port_pair p : ℕ) → j < 4 * region_groups c f → j / 2 % 2 ≡ port_pair → p ≡ block_place c f j → sent e && eqb (index e) j ≡ sent_at P T port_pair p e
        at j port_pair p l h i = alone j e l ∙ ap₂ (λ (a b : ℕ). sent_at P T a b e) h (sym i)

    -- and what they hold, with the symbols d
    module _ (d : ℕ → Pair) where
      value-at : (j p k : ℕ) → j < 4 * region_groups c f → p ≡ block_place c f j → block_with c f d (k * T + p) ≡ placed P (j / 2 % 2) 2 d j k
      unfolding block_with
      value-at j p k l i =
          let inside : p < T = omega (arith, i, L.inside j l) in
          let n : block_index c f p ≡ j = ap (block_index c f) i ∙ L.back j l in
          rw (at-mod k T p inside, at-div k T p inside, n) refl

      pair-at :
          (i port_pair p gap : ℕ) → i < 3 → (4 * q + i) % 2 ≡ 0 → (4 * q + i) / 2 % 2 ≡ port_pair → p ≡ block_place c f (4 * q + i) → p + gap ≡ block_place c f (4 * q + (i + 1))
          → {v w : Pair} → v ≡ d (4 * q + i) → w ≡ d (4 * q + (i + 1)) → PairValued P T port_pair p gap v w (block_with c f d)
      pair-at i port_pair p gap l even ports one two ev ew =
          let j = 4 * q + i in
          let m = 4 * q + (i + 1) in
          let b : j + 1 - 2 * 0 ≡ m = omega arith in
          let o : m % 2 ≡ 1 = omega arith in
          let b' : m + 1 - 2 * 1 ≡ j = omega arith in
          let u : m / 2 ≡ j / 2 = omega arith in
          let h : m / 2 % 2 ≡ port_pair = ap (λ (y : ℕ). y % 2) u ∙ ports in
          record {
            first = λ k. value-at j p k (omega arith) one ∙ (rw (ports, even, ev, ew) (ap (λ (y : ℕ). on_port P port_pair 2 0 (d j) (d y) k) b));
            second = λ k.
                let z : k * T + p + gap ≡ k * T + (p + gap) = omega arith in
                ap (block_with c f d) z ∙ value-at m (p + gap) k (omega arith) two ∙ (rw (h, o, ev, ew) (ap (λ (y : ℕ). on_port P port_pair 2 1 (d m) (d y) k) b'));
          }

      pub first-pair : {v w : Pair} → v ≡ d (4 * q + 0) → w ≡ d (4 * q + 1) → PairValued P T 0 x.first x.gap v w (block_with c f d)
      first-pair ev ew = pair-at 0 0 x.first x.gap (omega arith) (omega arith) (omega arith) places.one places.two ev ew

      pub second-pair : {v w : Pair} → v ≡ d (4 * q + 2) → w ≡ d (4 * q + 3) → PairValued P T 1 x.second x.gap v w (block_with c f d)
      second-pair ev ew = pair-at 2 1 x.second x.gap (omega arith) (omega arith) (omega arith) places.three places.four ev ew

  -- ---- one quad more
  pub quads-none : (q e : ℕ) → false ≡ quads_send c f q 0 e
  unfolding quads_send
  quads-none q e =
      sym
      (is_false (sent e && (leb q (index e / 4) && ltb (index e / 4) (q + 0)))
      (λ h.
      let r = and_right (sent e) (leb q (index e / 4) && ltb (index e / 4) (q + 0)) h in
      let a = leb-true q (index e / 4) (and_left (leb q (index e / 4)) (ltb (index e / 4) (q + 0)) r) in
      let b = ltb-true (index e / 4) (q + 0) (and_right (leb q (index e / 4)) (ltb (index e / 4) (q + 0)) r) in
      omega arith))

  pub quads-more : (q n e : ℕ) → quads_send c f q (n + 1) e ≡ quads_send c f (q + n) 1 e || quads_send c f q n e
  unfolding quads_send
  quads-more q n e =
      ap (λ (b : Bool). sent e && b) (row_more (index e / 4) q n)
      ∙ spread (sent e) (leb (q + n) (index e / 4) && ltb (index e / 4) (q + n + 1)) (leb q (index e / 4) && ltb (index e / 4) (q + n))
