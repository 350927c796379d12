-- The block's symbols and the places of the vacant groups are each other's, one to one, and what an accepted cell and frame give. Assumes these.
use Prim.Native.Nat.{ℕ, ◌+◌, ◌*◌, ◌/◌, ◌<◌}
use mathlib.Core.Path.{◌≡◌, refl, sym, ap, ap₂, ◌∙◌}
use mathlib.Core.Bool.{Bool, true, false, ◌&&◌}
use native.Mathlib.Omega.{arith}
use lib.Dec.{eqb, ltb}
use borrow.Author.Tests.{eq-eqb, eqb-true, lt-ltb, ltb-true}
use Rattle.base.specs.Counts.{which, Listed}
use Rattle.base.proofs.Tests.{both}
use Rattle.base.proofs.Counts.{which-is}
use Rattle.plan.specs.Fields.{control_symbols, region_groups}
use Rattle.plan.specs.declared.Cell.{Cell}
use Rattle.plan.specs.declared.Frame.{Frame}
use Rattle.plan.proofs.Listed.{and_left, and_right}
use Rattle.plan.proofs.Counts.{blocks-least}
use Rattle.plan.proofs.ControlRegion.{region-most}
use Rattle.layout.specs.Rules.{element_group, in_group}
use Rattle.layout.specs.Region.{is_vacant, group_quad, block_symbol, block_group}
use Rattle.layout.specs.Owners.{carriers}
use Rattle.layout.proofs.Pilot.{slot-length}
use Rattle.layout.proofs.Block as block
use Rattle.places.specs.Places.{place_number, symbol_at, carrier_at, places_of}
use Rattle.places.specs.Quads.{quads_place, quads_index, quad_index}
use Rattle.places.proofs.Quads.{QuadChannel, by-quads}
use Rattle.pdcch.specs.Groups.{RegionOf}
use Rattle.pdcch.specs.Block.{block_has, block_index, block_place}

module _ (c : Cell) (f : Frame) (ok : RegionOf c f) where
  pub region-in : block.RegionIn c f
  region-in = block.region-in c f ok.cell ok.frame ok.three

  abbrev R : ℕ
  R = region_groups c f

  -- the groups that the block has
  abbrev has : ℕ → ℕ → Bool
  has s t = ltb s (control_symbols c f) && is_vacant c s t

  pub block-quads : QuadChannel c R (block_symbol c f) (block_group c f) has
  block-quads =
      record {
        low = λ q l. omega (arith, block.block-low c f region-in q l, region-most c f, ok.frame.most, slot-length c);
        small = λ q l. block.block-small c f region-in q l;
        has-group = λ q l. both (lt-ltb _ _ (block.block-low c f region-in q l)) (block.block-vacant c f region-in q l);
        apart = λ q r a b es eg. block.blocks-apart c f region-in q r a b es eg;
        some = λ s t e.
            let a = ltb-true s (control_symbols c f) (and_left (ltb s (control_symbols c f)) (is_vacant c s t) e) in
            let v = and_right (ltb s (control_symbols c f)) (is_vacant c s t) e in
            (group_quad c f s t, block.quad-below c f region-in s t a v, sym (block.quad-symbol c f region-in s t a v), sym (block.quad-group c f region-in s t a v));
      }

  abbrev own : ℕ → Bool
  own t = block_has c f (symbol_at c t) (carrier_at c t)

  turned : (a b d : Bool) → a && b && d ≡ b && (a && d)
  turned true b d = refl
  turned false true d = refl
  turned false false d = refl

  by-rule : (t : ℕ) → own t ≡ in_group c (symbol_at c t) (carrier_at c t) && has (symbol_at c t) (element_group c (symbol_at c t) (carrier_at c t))
  unfolding block_has
  by-rule t =
      let s = symbol_at c t in
      let k = carrier_at c t in
      turned (ltb s (control_symbols c f)) (in_group c s k) (is_vacant c s (element_group c s k))

  some-carriers : 0 < carriers c
  some-carriers = omega (arith, blocks-least c ok.cell)

  listed :
      Listed own (places_of c) (4 * R) (λ (j : ℕ). place_number c (block_symbol c f (j / 4)) (quads_place c (block_symbol c f) (block_group c f) j))
      (λ (t : ℕ). quads_index c R (block_symbol c f) (block_group c f) (symbol_at c t) (carrier_at c t))
  listed = by-quads c R (block_symbol c f) (block_group c f) has block-quads some-carriers own by-rule

  place_is : (j : ℕ) → place_number c (block_symbol c f (j / 4)) (quads_place c (block_symbol c f) (block_group c f) j) ≡ block_place c f j
  unfolding block_place quads_place
  place_is j = refl

  module _ (s k : ℕ) (e : block_has c f s k ≡ true) where
    abbrev t : ℕ
    t = element_group c s k

    low_part : ltb s (control_symbols c f) && in_group c s k ≡ true
    unfolding block_has
    low_part = and_left (ltb s (control_symbols c f) && in_group c s k) (is_vacant c s t) e

    pub has-low : s < control_symbols c f
    has-low = ltb-true s (control_symbols c f) (and_left (ltb s (control_symbols c f)) (in_group c s k) low_part)

    pub has_kept : in_group c s k ≡ true
    has_kept = and_right (ltb s (control_symbols c f)) (in_group c s k) low_part

    pub has-vacant : is_vacant c s t ≡ true
    unfolding block_has
    has-vacant = and_right (ltb s (control_symbols c f) && in_group c s k) (is_vacant c s t) e

    abbrev q : ℕ
    q = group_quad c f s t

    pub has-quad : q < R
    has-quad = block.quad-below c f region-in s t has-low has-vacant

    one-quad : which (λ (i : ℕ). eqb s (block_symbol c f i) && eqb t (block_group c f i)) R ≡ q
    one-quad =
        which-is (λ (i : ℕ). eqb s (block_symbol c f i) && eqb t (block_group c f i)) R q has-quad
        (both (eq-eqb s (block_symbol c f q) (sym (block.quad-symbol c f region-in s t has-low has-vacant)))
        (eq-eqb t (block_group c f q) (sym (block.quad-group c f region-in s t has-low has-vacant))))
        (λ r l h.
        let x = eqb-true s (block_symbol c f r) (and_left (eqb s (block_symbol c f r)) (eqb t (block_group c f r)) h) in
        let y = eqb-true t (block_group c f r) (and_right (eqb s (block_symbol c f r)) (eqb t (block_group c f r)) h) in
        sym (block.block-quad c f region-in r l) ∙ ap₂ (group_quad c f) (sym x) (sym y))

  index_is : (t : ℕ) → own t ≡ true → quads_index c R (block_symbol c f) (block_group c f) (symbol_at c t) (carrier_at c t) ≡ block_index c f t
  unfolding quads_index block_index
  index_is t e = ap (λ (x : ℕ). 4 * x + quad_index c (symbol_at c t) (carrier_at c t)) (one-quad (symbol_at c t) (carrier_at c t) e)

  -- THE LAW OF PLACES
  pub block_listed : Listed own (places_of c) (4 * R) (block_place c f) (block_index c f)
  block_listed =
      record {
        inside = λ j l. rw (← place_is j) (listed.inside j l);
        owned = λ j l. rw (← place_is j) (listed.owned j l);
        back = λ j l. sym (index_is (block_place c f j) (rw (← place_is j) (listed.owned j l))) ∙ rw (← place_is j) (listed.back j l);
        below = λ t l e. omega (arith, index_is t e, listed.below t l e);
        again = λ t l e. sym (place_is (block_index c f t)) ∙ rw (← index_is t e) (listed.again t l e);
      }
