-- A unit has at most eight HIs where no pair is used twice, for both lengths: one to a slot. Assumes nothing.
use Rattle.std.proofs.Common.{◌≡◌, ℕ, zero, suc, ◌+◌, ◌*◌, ◌<◌, ◌≤◌, Bool, true, false, cond, eqb, List, [], ◌∷◌, sym, refl, ◌∙◌, ap₂, not-suc-le-zero, arith, eq-eqb, ne_eqb}
use native.Mathlib.Decide.{ℕ_discrete}
use Rattle.plan.specs.declared.Hi.{Hi}
use Rattle.phich.specs.His.{Fresh, Distinct}
use Rattle.phich.specs.Spreading.{Length}
use Rattle.phich.specs.Units.{mapping_unit, count_in, Within}
use Rattle.phich.proofs.Slots.{slot_of, slot_lt, same-hi}

-- ---- sums of counts
tally : ℕ → (ℕ → ℕ) → ℕ
tally zero f = 0
tally (suc n) f = tally n f + f n

tally-add : (n : ℕ) (f g : ℕ → ℕ) → tally n (λ k. f k + g k) ≡ tally n f + tally n g
unfolding tally
tally-add zero f g = refl
tally-add (suc n) f g = omega (arith, tally-add n f g)

tally-most : (n : ℕ) (f : ℕ → ℕ) → ((k : ℕ) → f k ≤ 1) → tally n f ≤ n
unfolding tally
tally-most zero f h = omega arith
tally-most (suc n) f h = omega (arith, tally-most n f h, h n)

tally-at : (n : ℕ) (f : ℕ → ℕ) (x : ℕ) → x < n → f x ≤ tally n f
unfolding tally
tally-at zero f x h = absurd (not-suc-le-zero h)
tally-at (suc n) f x h = pick (ℕ_discrete x n) (tally-at n f x)
  where
    pick : Dec (x ≡ n) → (x < n → f x ≤ tally n f) → f x ≤ tally n f + f n
    pick (yes e) ih = rw e (omega arith)
    pick (no e) ih = omega (arith, ih (omega arith))

module _ (l : ℕ) (ok : Length l) (m : ℕ) where
  -- 1 where h is the unit's HI in the slot s
  hit : ℕ → Hi → ℕ
  hit s h = cond (eqb (mapping_unit l h) m) (cond (eqb (slot_of l h) s) 1 0) 0

  hits : ℕ → List Hi → ℕ
  hits s [] = 0
  hits s (h ∷ hs) = hit s h + hits s hs

  hit-not : (s : ℕ) (h : Hi) → (mapping_unit l h ≡ m → slot_of l h ≡ s → ⊥) → hit s h ≡ 0
  unfolding hit
  hit-not s h n = pick (ℕ_discrete (mapping_unit l h) m) (ℕ_discrete (slot_of l h) s)
    where
      pick : Dec (mapping_unit l h ≡ m) → Dec (slot_of l h ≡ s) → ◌≡◌ {A = ℕ} (cond (eqb (mapping_unit l h) m) (cond (eqb (slot_of l h) s) 1 0) 0) 0
      pick (yes x) (yes y) = absurd (n x y)
      pick (yes x) (no y) = simp (eq-eqb _ _ x, ne_eqb _ _ y)
      pick (no x) y = simp (ne_eqb _ _ x)

  hit-own : (h : Hi) → hit (slot_of l h) h ≡ cond (eqb (mapping_unit l h) m) 1 0
  unfolding hit
  hit-own h = simp (eq-eqb (slot_of l h) (slot_of l h) refl)

  hit-most : (s : ℕ) (h : Hi) → hit s h ≤ 1
  unfolding hit
  hit-most s h = pick (eqb (mapping_unit l h) m) (eqb (slot_of l h) s)
    where
      pick : (x y : Bool) → cond x (cond y 1 0) 0 ≤ 1
      pick true true = omega arith
      pick true false = omega arith
      pick false y = omega arith

  -- an HI that hits is the only one
  rest-zero : (s : ℕ) (h : Hi) → h.sequence < 2 * l → mapping_unit l h ≡ m → slot_of l h ≡ s → (hs : List Hi) → Within l hs → Fresh h hs → hits s hs ≡ 0
  unfolding hits Within Fresh
  rest-zero s h v x y [] w f = refl
  rest-zero s h v x y (g ∷ hs) w f =
      ap₂ (λ (a b : ℕ). a + b)
      (hit-not s g (λ u t. f.0 (same-hi l ok h g v w.0 (x ∙ sym u) (y ∙ sym t))))
      (rest-zero s h v x y hs w.1 f.1)

  hits-most : (s : ℕ) (hs : List Hi) → Within l hs → Distinct hs → hits s hs ≤ 1
  unfolding hits Within Distinct
  hits-most s [] w d = omega arith
  hits-most s (h ∷ hs) w d = pick (ℕ_discrete (mapping_unit l h) m) (ℕ_discrete (slot_of l h) s) (hits-most s hs w.1 d.1)
    where
      pick : Dec (mapping_unit l h ≡ m) → Dec (slot_of l h ≡ s) → hits s hs ≤ 1 → hit s h + hits s hs ≤ 1
      pick (yes x) (yes y) ih = omega (arith, rest-zero s h w.0 x y hs w.1 d.0, hit-most s h)
      pick (yes x) (no y) ih = omega (arith, hit-not s h (λ u t. y t))
      pick (no x) y ih = omega (arith, hit-not s h (λ u t. x u))

  counted : (hs : List Hi) → Within l hs → count_in l m hs ≤ tally 8 (λ s. hits s hs)
  unfolding count_in Within hits
  counted [] w = omega arith
  counted (h ∷ hs) w =
      omega (arith, tally-add 8 (λ s. hit s h) (λ s. hits s hs), tally-at 8 (λ s. hit s h) (slot_of l h) (slot_lt l ok h w.0), hit-own h, counted hs w.1)

  pub few : (hs : List Hi) → Within l hs → Distinct hs → count_in l m hs ≤ 8
  few hs w d = omega (arith, counted hs w, tally-most 8 (λ s. hits s hs) (λ s. hits-most s hs w d))
