-- The places of one HI among those of all units: l of them from place group × l on, for both lengths. What the HI adds there, chip by chip,
-- and its bit from them. Assumes nothing.
use Rattle.std.proofs.Common.{◌≡◌, ℕ, ◌+◌, ◌-◌, ◌*◌, ◌/◌, ◌%◌, ◌^◌, ◌<◌, ◌≤◌, Bool, true, false, cond}
use Rattle.std.proofs.Common.{eqb, ltb, List, length, sym, refl, ap, ◌∙◌, arith, ltb-false, ltb-true, le-ltb, lt-ltb, eq-eqb, ne_eqb}
use native.Mathlib.Decide.{ℕ_discrete}
use Rattle.base.specs.declared.Pair.{Pair}
use Rattle.base.specs.Pairs.{nil, plus, flipped, Small}
use Rattle.base.proofs.Pairs.{plus_nil, nil-plus, flipped-small}
use Rattle.base.proofs.Tests.{by-test}
use Rattle.plan.specs.declared.Hi.{Hi}
use Rattle.phich.specs.Spreading.{Length, sign_at, plain_chip}
use Rattle.phich.specs.Units.{mapping_unit, first_place, part_at, added_at}
use Rattle.phich.specs.Loops.{HiIn, own_part, unscrambled, only, Adds}
use Rattle.phich.proofs.Lengths.{by_length}
use Rattle.phich.proofs.Parts.{part-below, part-above, part_in, chip-flips}
use Rattle.phich.proofs.Adding.{adds_none, adds_then, adds_same}

-- a group's places are in one quad, and of 25 units
pub group-fits : (l : ℕ) → Length l → (g : ℕ) → g * l % 4 + l ≤ 4
group-fits l ok g = by_length (λ n. g * n % 4 + n ≤ 4) (omega arith) (omega arith) l ok

module _ {l : ℕ} {h : Hi} (ok : HiIn l h) where
  last-place : h.group * l + l ≤ 100
  unfolding mapping_unit
  last-place = omega (arith, group-fits l ok.spread h.group, ok.unit)

  -- place group × l + n
  pub place-fits : {g n : ℕ} → g ≡ h.group → n < l → (g * l < 2 ^ 64) × (g * l + n < 2 ^ 64) × (g * l + n < 100)
  place-fits e r = rw e (omega (arith, last-place), omega (arith, last-place), omega (arith, last-place))

-- what the HI's first n chips add at place y, and that they are added
unfoldable pub up_to : ℕ → Hi → ℕ → ℕ → ℕ → Pair
up_to l h b n y = cond (ltb y (h.group * l + n)) (own_part l h b y) nil

pub record Added (l : ℕ) (h : Hi) (b n : ℕ) (before after : List ℕ) : Type 0 where
  pub done : n ≤ l
  pub size : length before ≡ 200
  pub added : Adds (up_to l h b n) before after

module _ (l : ℕ) (ok : Length l) (h : Hi) (b : ℕ) where
  abbrev first : ℕ
  first = h.group * l

  other-unit : (y : ℕ) → (mapping_unit l h ≡ y / 4 → ⊥) → own_part l h b y ≡ nil
  unfolding own_part added_at
  other-unit y n = ap (λ (t : Bool). cond t (part_at l unscrambled h b (y % 4)) nil) (ne_eqb (mapping_unit l h) (y / 4) n)

  own-unit : (y : ℕ) → mapping_unit l h ≡ y / 4 → own_part l h b y ≡ part_at l unscrambled h b (y % 4)
  unfolding own_part added_at
  own-unit y e = ap (λ (t : Bool). cond t (part_at l unscrambled h b (y % 4)) nil) (eq-eqb (mapping_unit l h) (y / 4) e)

  own_in : (n : ℕ) → n < l → own_part l h b (first + n) ≡ flipped b (plain_chip (sign_at l h.sequence n))
  unfolding mapping_unit first_place
  own_in n r =
      let f = group-fits l ok h.group in
      let e : (first + n) % 4 % 4 - first % 4 ≡ n = omega (arith, f) in
      own-unit (first + n) (omega (arith, f))
      ∙ part_in l unscrambled h b ((first + n) % 4) (omega (arith, f)) (omega (arith, f))
      ∙ ap (λ (k : ℕ). flipped b (plain_chip (sign_at l h.sequence k))) e

  own-before : (y : ℕ) → y < first → own_part l h b y ≡ nil
  unfolding mapping_unit first_place
  own-before y r = pick (ℕ_discrete (mapping_unit l h) (y / 4))
    where
      pick : Dec (mapping_unit l h ≡ y / 4) → own_part l h b y ≡ nil
      pick (yes e) = own-unit y e ∙ part-below l unscrambled h b (y % 4) (omega arith)
      pick (no n) = other-unit y n

  own-after : (y : ℕ) → first + l ≤ y → own_part l h b y ≡ nil
  unfolding mapping_unit first_place
  own-after y r = pick (ℕ_discrete (mapping_unit l h) (y / 4))
    where
      pick : Dec (mapping_unit l h ≡ y / 4) → own_part l h b y ≡ nil
      pick (yes e) = own-unit y e ∙ part-above l unscrambled h b (y % 4) (omega arith) (omega arith)
      pick (no n) = other-unit y n

  -- ---- the loop of `add_hi`: n chips are added
  upto-none : (y : ℕ) → up_to l h b 0 y ≡ nil
  unfolding up_to
  upto-none y = pick (ltb y (first + 0)) refl
    where
      pick : (t : Bool) → ltb y (first + 0) ≡ t → cond t (own_part l h b y) nil ≡ nil
      pick true e = own-before y (omega (arith, ltb-true y (first + 0) e))
      pick false e = refl

  upto_all : (y : ℕ) → up_to l h b l y ≡ own_part l h b y
  unfolding up_to
  upto_all y = pick (ltb y (first + l)) refl
    where
      pick : (t : Bool) → ltb y (first + l) ≡ t → cond t (own_part l h b y) nil ≡ own_part l h b y
      pick true e = refl
      pick false e = sym (own-after y (omega (arith, ltb-false y (first + l) e)))

  upto-more : (n : ℕ) → n < l → (y : ℕ) → plus (up_to l h b n y) (only (first + n) (flipped b (plain_chip (sign_at l h.sequence n))) y) ≡ up_to l h b (n + 1) y
  unfolding up_to only
  upto-more n r y = pick (ℕ_discrete y (first + n))
    where
      pick :
          Dec (y ≡ first + n) → plus (cond (ltb y (first + n)) (own_part l h b y) nil) (cond (eqb y (first + n)) (flipped b (plain_chip (sign_at l h.sequence n))) nil) ≡ cond
          (ltb y (first + (n + 1))) (own_part l h b y) nil
      pick (yes e) =
          rw (eq-eqb y (first + n) e, le-ltb y (first + n) (omega arith), lt-ltb y (first + (n + 1)) (omega arith))
          (nil-plus _ ∙ sym (ap (own_part l h b) e ∙ own_in n r))
      pick (no ne) =
          rw (ne_eqb y (first + n) ne)
          (plus_nil _
          ∙ ap (λ (t : Bool). cond t (own_part l h b y) nil)
          (by-test (ltb y (first + n))
          (λ t. t ∙ sym (lt-ltb y (first + (n + 1)) (omega (arith, ltb-true y (first + n) t))))
          (λ t. t ∙ sym (le-ltb y (first + (n + 1)) (omega (arith, ltb-false y (first + n) t, ne))))))

  pub add_start : (s : List ℕ) → length s ≡ 200 → Added l h b 0 s s
  add_start s e = record { done = omega arith; size = e; added = adds_same (λ y. sym (upto-none y)) (adds_none s) }

  pub add-next :
      {n q g : ℕ} {chip d : Pair} {s t u : List ℕ} → Added l h b n s t → n < l → q ≡ h.sequence → chip ≡ plain_chip (sign_at l q n) → d ≡ flipped b chip → g ≡ h.group
      → Adds (only (g * l + n) d) t u → Added l h b (n + 1) s u
  add-next {n = n} {t = t} {u = u} a r eq ec ed eg w =
      let e = ed ∙ ap (flipped b) (ec ∙ ap (λ (k : ℕ). plain_chip (sign_at l k n)) eq) in
      let one : Adds (only (first + n) (flipped b (plain_chip (sign_at l h.sequence n)))) t u = rw (← eg, ← e) w in
      record { done = omega arith; size = a.size; added = adds_same (upto-more n r) (adds_then a.added one) }

  pub add-finish : {n : ℕ} {s t : List ℕ} → Added l h b n s t → l ≤ n → Adds (own_part l h b) s t
  add-finish {n = n} a r = let e : n ≡ l = omega (arith, a.done) in adds_same upto_all (rw e at a.added)

-- a chip can be flipped, and is small then
pub flipped-chip : (l q n b : ℕ) {chip d : Pair} → chip ≡ plain_chip (sign_at l q n) → d ≡ flipped b chip → Small 127 d
flipped-chip l q n b {chip} e f = rw f (flipped-small b 127 chip (chip-flips l q n e))
