-- The first quad along an HI is its own places along its own chips, and the loop over these: what is totalled so far. Assumes nothing.
use Rattle.std.proofs.Common.{◌≡◌, ℕ, ◌+◌, ◌-◌, ◌*◌, ◌/◌, ◌%◌, ◌<◌, ◌≤◌, true, false, List, get_or, ℤ, pos}
use Rattle.std.proofs.Common.{◌+ℤ◌, nat_abs, sym, refl, ap, ◌∙◌, ap₂, zero-mul, add-one, arith, to_z-of_z, w16, SFits, to_z, of_z}
use native.Mathlib.Decide.{ℕ_discrete}
use lib.IntN.{+ℤ_idr}
use lib.Signed.{lt_z}
use Rattle.base.specs.declared.Pair.{Pair}
use Rattle.base.specs.Signs.{flip, below}
use Rattle.base.specs.Pairs.{nil, flipped}
use Rattle.base.proofs.Fits.{abs-add, fits-abs, below-yes, below-not}
use Rattle.base.proofs.Tables.{table_at}
use Rattle.plan.specs.declared.Hi.{Hi}
use Rattle.phich.specs.Spreading.{Length, sign_at, plain_chip}
use Rattle.phich.specs.Units.{mapping_unit, first_place, part_at}
use Rattle.phich.specs.Recovery.{dot, total, along, bit_in}
use Rattle.phich.specs.Loops.{levels_at, quad_of}
use Rattle.phich.proofs.Lengths.{by_length}
use Rattle.phich.proofs.Correlation.{flipped-dot, total-same}
use Rattle.phich.proofs.Parts.{part-below, part-above, part_in}
use Rattle.phich.proofs.Along.{along-same}
use Rattle.phich.proofs.Own.{group-fits}

-- ---- l of four terms, from the first place f on, where the others are 0
module _ (f : ℕ → ℤ) where
  from_zero : (u : ℕ → ℤ) → ((i : ℕ) → i < 2 → f i ≡ u i) → ((i : ℕ) → 2 ≤ i → i < 4 → f i ≡ pos 0) → total 4 f ≡ total 2 u
  unfolding total
  from_zero u own none =
      ap₂ (λ (x y : ℤ). total 2 f +ℤ x +ℤ y) (none 2 (omega arith) (omega arith)) (none 3 (omega arith) (omega arith))
      ∙ +ℤ_idr (total 2 f +ℤ pos 0) ∙ +ℤ_idr (total 2 f) ∙ total-same 2 f u own

  from-two : (u : ℕ → ℤ) → ((i : ℕ) → i < 2 → f i ≡ pos 0) → ((i : ℕ) → i < 2 → f (2 + i) ≡ u i) → total 4 f ≡ total 2 u
  unfolding total
  from-two u none own =
      ap₂ (λ (x y : ℤ). pos 0 +ℤ x +ℤ y +ℤ f 2 +ℤ f 3) (none 0 (omega arith)) (none 1 (omega arith))
      ∙ ap₂ (λ (x y : ℤ). pos 0 +ℤ x +ℤ y) (own 0 (omega arith)) (own 1 (omega arith))

window :
    (l : ℕ) → Length l → (g : ℕ) (f u : ℕ → ℤ) → ((n : ℕ) → n < l → f (g * l % 4 + n) ≡ u n)
    → ((i : ℕ) → i < g * l % 4 → f i ≡ pos 0) → ((i : ℕ) → g * l % 4 + l ≤ i → i < 4 → f i ≡ pos 0) → total 4 f ≡ total l u
window l ok g f u =
    by_length
    (λ m. ((n : ℕ) → n < m → f (g * m % 4 + n) ≡ u n) → ((i : ℕ) → i < g * m % 4 → f i ≡ pos 0) → ((i : ℕ) → g * m % 4 + m ≤ i → i < 4 → f i ≡ pos 0) → total 4 f ≡ total m u)
    (λ own before after. two own before after (ℕ_discrete (g * 2 % 4) 0))
    (λ own before after. total-same 4 f u (λ i r. let e : i ≡ g * 4 % 4 + i = omega arith in ap f e ∙ own i r))
    l ok
  where
    two : ((n : ℕ) → n < 2 → f (g * 2 % 4 + n) ≡ u n) → ((i : ℕ) → i < g * 2 % 4 → f i ≡ pos 0) → ((i : ℕ) → g * 2 % 4 + 2 ≤ i → i < 4 → f i ≡ pos 0) → Dec (g * 2 % 4 ≡ 0) → total 4 f ≡ total 2 u
    two own before after (yes z) = from_zero f u (λ i r. let e : i ≡ g * 2 % 4 + i = omega arith in ap f e ∙ own i r) (λ i r q. after i (omega arith) q)
    two own before after (no z) =
        let t : g * 2 % 4 ≡ 2 = omega arith in
        from-two f u (λ i r. before i (omega arith)) (λ i r. let e : 2 + i ≡ g * 2 % 4 + i = omega arith in ap f e ∙ own i r)

-- the product along chip n of the HI h, scrambled
abbrev term : ℕ → (ℕ → ℕ) → Hi → List ℕ → ℕ → ℤ
term l c h s n = dot (flipped (c n) (plain_chip (sign_at l h.sequence n))) (levels_at s (h.group * l + n))

module _ (l : ℕ) (c : ℕ → ℕ) (h : Hi) (ok : Length l) (s : List ℕ) where
  abbrev place : ℕ → ℤ
  place i = dot (part_at l c h 0 i) (levels_at s (4 * mapping_unit l h + i))

  own : (n : ℕ) → n < l → place (h.group * l % 4 + n) ≡ term l c h s n
  unfolding mapping_unit first_place
  own n r =
      let f = group-fits l ok h.group in
      let a = h.group * l in
      let i = a % 4 + n in
      let z : i / 4 ≡ 0 = omega (arith, f) in
      let e : i % 4 - a % 4 ≡ n = omega (arith, f) in
      let x : i / 4 * l + (i % 4 - a % 4) ≡ n = ap₂ (λ (u v : ℕ). u * l + v) z e ∙ omega (arith, zero-mul l) in
      let y : 4 * (a / 4) + i ≡ a + n = omega arith in
      ap₂ dot
      (part_in l c h 0 i (omega (arith, f)) (omega (arith, f)) ∙ ap₂ (λ (u v : ℕ). flipped (c u) (plain_chip (sign_at l h.sequence v))) x e)
      (ap (levels_at s) y)

  -- THE LAW: along the HI are its own places alone
  along-own : along l c h (λ (i : ℕ). get_or (quad_of s (mapping_unit l h)) i nil) ≡ total l (term l c h s)
  unfolding along quad_of first_place
  along-own =
      along-same l c h _ (λ (i : ℕ). levels_at s (4 * mapping_unit l h + i)) (λ i r. table_at 4 (λ (j : ℕ). levels_at s (4 * mapping_unit l h + j)) nil i r)
      ∙ window l ok h.group place (term l c h s) own
      (λ i r. let g = group-fits l ok h.group in ap (λ (p : Pair). dot p (levels_at s (4 * mapping_unit l h + i))) (part-below l c h 0 i (omega (arith, g))))
      (λ i r q. let g = group-fits l ok h.group in ap (λ (p : Pair). dot p (levels_at s (4 * mapping_unit l h + i))) (part-above l c h 0 i (omega (arith, g)) (omega (arith, g))))

pub record Totalled (l : ℕ) (c : ℕ → ℕ) (h : Hi) (s : List ℕ) (x : ℤ) (n : ℕ) : Type 0 where
  pub done : n ≤ l
  pub value : x ≡ total n (term l c h s)
  pub small : nat_abs x ≤ 256 * n

module _ {l : ℕ} {c : ℕ → ℕ} {h : Hi} {s : List ℕ} where
  pub start : Totalled l c h s (pos 0) 0
  unfolding total
  start = record { done = omega arith; value = refl; small = omega arith }

  module _ {x : ℤ} {n : ℕ} (t : Totalled l c h s x n) (d : ℤ) (r : n < l) (most : l ≤ 4) (k : nat_abs d ≤ 256) where
    pub next_fits : SFits w16 (x +ℤ to_z w16 (of_z w16 d))
    next_fits = rw (to_z-of_z (fits-abs w16 d (omega arith))) (fits-abs w16 (x +ℤ d) (omega (arith, abs-add x d, t.small)))

    next-is : to_z w16 (of_z w16 (x +ℤ to_z w16 (of_z w16 d))) ≡ x +ℤ d
    next-is = simp (to_z-of_z (fits-abs w16 d (omega arith)), to_z-of_z (fits-abs w16 (x +ℤ d) (omega (arith, abs-add x d, t.small))))

    pub next :
        {q g b : ℕ} {chip p : Pair} {z : ℤ} → q ≡ h.sequence → chip ≡ plain_chip (sign_at l q n) → g ≡ h.group → p ≡ levels_at s (g * l + n)
        → z ≡ dot chip p → b ≡ c n → d ≡ flip b z → Totalled l c h s (to_z w16 (of_z w16 (x +ℤ to_z w16 (of_z w16 d)))) (n + 1)
    unfolding total
    next eq ec eg ep ez eb ed =
        let e = ez ∙ ap₂ dot (ec ∙ ap (λ (k : ℕ). plain_chip (sign_at l k n)) eq) (ep ∙ ap (λ (k : ℕ). levels_at s (k * l + n)) eg) in
        let f = ed ∙ ap₂ flip eb e ∙ sym (flipped-dot (c n) (plain_chip (sign_at l h.sequence n)) (levels_at s (h.group * l + n))) in
        record {
          done = omega arith;
          value = next-is ∙ ap₂ (λ (u v : ℤ). u +ℤ v) t.value f ∙ ap (λ (k : ℕ). total k (term l c h s)) (sym (add-one n));
          small = rw next-is (omega (arith, abs-add x d, t.small));
        }

  finish : {x : ℤ} {n : ℕ} → Length l → Totalled l c h s x n → l ≤ n → bit_in l c h (quad_of s (mapping_unit l h)) ≡ below x
  unfolding bit_in
  finish {n = n} ok t r =
      let e : l ≡ n = omega (arith, t.done) in
      ap below (along-own l c h ok s ∙ ap (λ (k : ℕ). total k (term l c h s)) e ∙ sym t.value)

  pub finish-one : {x : ℤ} {n : ℕ} → Length l → Totalled l c h s x n → l ≤ n → lt_z x (pos 0) ≡ true → 1 ≡ bit_in l c h (quad_of s (mapping_unit l h))
  finish-one {x = x} ok t r e = sym (finish ok t r ∙ below-yes x e)

  pub finish-zero : {x : ℤ} {n : ℕ} → Length l → Totalled l c h s x n → l ≤ n → lt_z x (pos 0) ≡ false → 0 ≡ bit_in l c h (quad_of s (mapping_unit l h))
  finish-zero {x = x} ok t r e = sym (finish ok t r ∙ below-not x e)
