-- THE LAWS OF THE GIVEN CONTROL ELEMENTS: the elements of the block that are sent, those of the control elements below n, and one more.
-- Assumes a cell and a frame of an accepted plan.
use Prim.Native.Nat.{ℕ, ◌+◌, ◌*◌, ◌/◌, ◌%◌, ◌≤◌, ◌<◌}
use mathlib.Core.Path.{◌≡◌, refl, sym, ap, ◌∙◌}
use mathlib.Core.Bool.{Bool, true, false, ◌&&◌, ◌||◌}
use mathlib.Core.Logic.{⊎_elim}
use mathlib.Core.List.{List}
use native.Mathlib.Nat.{mod-lt}
use native.Mathlib.Decide.{dec_le}
use native.Mathlib.Omega.{arith}
use lib.Dec.{leb, ltb}
use lib.ListN.{get_or}
use borrow.Author.Tests.{le-leb, leb-true, lt-ltb, ltb-true, le-ltb}
use Rattle.base.proofs.Tests.{clash, both, same_test, is_false, or_cases, or_left, or_right}
use Rattle.plan.specs.Fields.{control_elements}
use Rattle.plan.specs.declared.Cell.{Cell}
use Rattle.plan.specs.declared.Frame.{Frame}
use Rattle.plan.proofs.Counts.{blocks-least}
use Rattle.plan.proofs.Listed.{and_left, and_right}
use Rattle.layout.specs.Rules.{element_group}
use Rattle.layout.specs.Owners.{carriers}
use Rattle.layout.specs.Region.{group_quad}
use Rattle.places.specs.Places.{symbol_at, carrier_at, places_of}
use Rattle.places.proofs.Quads.{index-small}
use Rattle.grid.specs.Writing.{sends}
use Rattle.pdcch.specs.Groups.{RegionOf}
use Rattle.pdcch.specs.Block.{is_given, FromIn, block_has, given_at, block_index, block_sends}
use Rattle.pdcch.proofs.Listing.{has_kept}
use Rattle.pdcch_write.specs.Filling.{quads_send}

-- those of the control elements below n
abbrev pub given_below : Cell → Frame → List ℕ → ℕ → ℕ → Bool
given_below c f from n e = block_sends c f from e && ltb (block_index c f (e % places_of c) / 36) n

-- tests of which two are the same where the first holds
turned : (a g h s : Bool) → (a ≡ true → g ≡ h) → (a && g) && s ≡ (a && s) && h
turned true true h s e = rw (← e refl) (keep s)
  where
    keep : (s : Bool) → s ≡ s && true
    keep true = refl
    keep false = refl
turned true false h s e = rw (← e refl) (drop s)
  where
    drop : (s : Bool) → false ≡ s && false
    drop true = refl
    drop false = refl
turned false g h s e = refl

module _ (c : Cell) (f : Frame) (ok : RegionOf c f) (from : List ℕ) where
  abbrev T : ℕ
  T = places_of c

  abbrev own : ℕ → Bool
  own t = block_has c f (symbol_at c t) (carrier_at c t)

  abbrev index : ℕ → ℕ
  index e = block_index c f (e % T)

  abbrev sent : ℕ → Bool
  sent e = own (e % T) && sends c.ports (index e / 2 % 2) (e / T)

  some-carriers : 0 < carriers c
  some-carriers = omega (arith, blocks-least c ok.cell)

  -- the control element of a place, by its quad
  element-is : (t : ℕ) → own t ≡ true → group_quad c f (symbol_at c t) (element_group c (symbol_at c t) (carrier_at c t)) / 9 ≡ block_index c f t / 36
  unfolding block_index
  element-is t h =
      let s = symbol_at c t in
      let k = carrier_at c t in
      omega (arith, index-small c s k (mod-lt t some-carriers) (has_kept c f ok s k h))

  sends-is : (e : ℕ) → block_sends c f from e ≡ sent e && is_given from (index e / 36)
  unfolding block_sends given_at
  sends-is e =
      let s = symbol_at c (e % T) in
      let k = carrier_at c (e % T) in
      turned (block_has c f s k) (is_given from (group_quad c f s (element_group c s k) / 9)) (is_given from (index e / 36)) (sends c.ports (index e / 2 % 2) (e / T))
      (λ h. ap (is_given from) (element-is (e % T) h))

  module _ (e : ℕ) where
    -- a sent element's control element is given
    is-sent : block_sends c f from e ≡ true → (sent e ≡ true) × (is_given from (index e / 36) ≡ true)
    is-sent h = let y = sym (sends-is e) ∙ h in (and_left (sent e) (is_given from (index e / 36)) y, and_right (sent e) (is_given from (index e / 36)) y)

    below : (n : ℕ) → given_below c f from n e ≡ true → (block_sends c f from e ≡ true) × (index e / 36 < n)
    below n h = (and_left (block_sends c f from e) (ltb (index e / 36) n) h, ltb-true (index e / 36) n (and_right (block_sends c f from e) (ltb (index e / 36) n) h))

    in-below : (n : ℕ) → block_sends c f from e ≡ true → index e / 36 < n → given_below c f from n e ≡ true
    in-below n h l = both h (lt-ltb (index e / 36) n l)

    -- the elements of control element n
    in-element : (n : ℕ) → sent e ≡ true → index e / 36 ≡ n → quads_send c f (9 * n) 9 e ≡ true
    unfolding quads_send
    in-element n h i = both h (both (le-leb (9 * n) (index e / 4) (omega arith)) (lt-ltb (index e / 4) (9 * n + 9) (omega arith)))

    pub of-element : (n : ℕ) → quads_send c f (9 * n) 9 e ≡ true → (sent e ≡ true) × (index e / 36 ≡ n)
    unfolding quads_send
    of-element n h =
        let a = leb (9 * n) (index e / 4) in
        let b = ltb (index e / 4) (9 * n + 9) in
        let r = and_right (sent e) (a && b) h in
        (and_left (sent e) (a && b) h, omega (arith, leb-true (9 * n) (index e / 4) (and_left a b r), ltb-true (index e / 4) (9 * n + 9) (and_right a b r)))

    pub given-none : false ≡ given_below c f from 0 e
    given-none = sym (is_false (given_below c f from 0 e) (λ h. omega (arith, (below 0 h).1)))

    -- control element n is given
    pub given-more : (n : ℕ) → is_given from n ≡ true → given_below c f from (n + 1) e ≡ quads_send c f (9 * n) 9 e || given_below c f from n e
    given-more n g =
        same_test (given_below c f from (n + 1) e) (quads_send c f (9 * n) 9 e || given_below c f from n e)
        (λ h. let y = below (n + 1) h in split y.0 y.1 (dec_le n (index e / 36)))
        (λ h. ⊎_elim (λ y. let z = of-element n y in in-below (n + 1) (sends-is e ∙ both z.0 (ap (is_given from) z.1 ∙ g)) (omega (arith, z.1)))
        (λ y. let z = below n y in in-below (n + 1) z.0 (omega (arith, z.1))) (or_cases (quads_send c f (9 * n) 9 e) (given_below c f from n e) h))
      where
        split : block_sends c f from e ≡ true → index e / 36 < n + 1 → Dec (n ≤ index e / 36) → quads_send c f (9 * n) 9 e || given_below c f from n e ≡ true
        split h l (yes m) = or_left (quads_send c f (9 * n) 9 e) (given_below c f from n e) (in-element n (is-sent h).0 (omega arith))
        split h l (no m) = or_right (quads_send c f (9 * n) 9 e) (given_below c f from n e) (in-below n h (omega arith))

    -- it is not
    pub given-skip : (n : ℕ) → is_given from n ≡ false → given_below c f from n e ≡ given_below c f from (n + 1) e
    given-skip n g =
        same_test (given_below c f from n e) (given_below c f from (n + 1) e)
        (λ h. let y = below n h in in-below (n + 1) y.0 (omega (arith, y.1)))
        (λ h. let y = below (n + 1) h in in-below n y.0 (less y.1 (dec_le n (index e / 36)) (is-sent y.0).1))
      where
        less : index e / 36 < n + 1 → Dec (n ≤ index e / 36) → is_given from (index e / 36) ≡ true → index e / 36 < n
        less l (yes m) h = let i : index e / 36 ≡ n = omega arith in clash (sym (ap (is_given from) i) ∙ h) g
        less l (no m) h = omega arith

    -- all
    pub given-all : (n : ℕ) {bytes : ℕ} → FromIn c f from bytes → control_elements c f ≤ n → given_below c f from n e ≡ block_sends c f from e
    given-all n h l =
        same_test (given_below c f from n e) (block_sends c f from e)
        (λ y. (below n y).0)
        (λ y. in-below n y (early (dec_le (control_elements c f) (index e / 36)) (is-sent y).1))
      where
        early : Dec (control_elements c f ≤ index e / 36) → is_given from (index e / 36) ≡ true → index e / 36 < n
        early (yes m) g = clash g (le-ltb 0 (get_or from (index e / 36) 0) (omega (arith, h.none (index e / 36) m)))
        early (no m) g = omega arith
