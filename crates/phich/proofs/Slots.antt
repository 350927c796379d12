-- A unit has eight slots, a pair of its groups' first place and a sequence each: an HI's unit and slot are its own. Assumes nothing.
use Rattle.std.proofs.Common.{◌≡◌, ℕ, ◌+◌, ◌*◌, ◌/◌, ◌%◌, ◌<◌, ap, ap₂, arith}
use Rattle.plan.specs.declared.Hi.{Hi}
use Rattle.phich.specs.Spreading.{Length}
use Rattle.phich.specs.Units.{mapping_unit, first_place}
use Rattle.phich.proofs.Lengths.{by_length}

unfoldable pub slot_of : ℕ → Hi → ℕ
slot_of l h = 2 * first_place l h + h.sequence

module _ (l : ℕ) (ok : Length l) (h : Hi) (w : h.sequence < 2 * l) where
  pub slot_lt : slot_of l h < 8
  unfolding slot_of first_place
  slot_lt = by_length (λ n. h.sequence < 2 * n → 2 * (h.group * n % 4) + h.sequence < 8) (λ x. omega arith) (λ x. omega arith) l ok w

  -- the first place and the sequence from the slot
  pub slot-first : slot_of l h / (2 * l) * l ≡ first_place l h
  unfolding slot_of first_place
  slot-first =
      by_length (λ n. h.sequence < 2 * n → (2 * (h.group * n % 4) + h.sequence) / (2 * n) * n ≡ h.group * n % 4) (λ x. omega arith) (λ x. omega arith) l ok w

  pub slot-sequence : slot_of l h % (2 * l) ≡ h.sequence
  unfolding slot_of first_place
  slot-sequence =
      by_length (λ n. h.sequence < 2 * n → (2 * (h.group * n % 4) + h.sequence) % (2 * n) ≡ h.sequence) (λ x. omega arith) (λ x. omega arith) l ok w

-- the same unit and the same slot
pair_same :
    (l : ℕ) → Length l → (g h : Hi) → g.sequence < 2 * l → h.sequence < 2 * l → g.group * l / 4 ≡ h.group * l / 4 → 2 * (g.group * l % 4) + g.sequence ≡ 2
    * (h.group * l % 4) + h.sequence → (g.group ≡ h.group) × (g.sequence ≡ h.sequence)
pair_same l ok g h =
    by_length
    (λ n. g.sequence < 2 * n → h.sequence < 2 * n → g.group * n / 4 ≡ h.group * n / 4 → 2 * (g.group * n % 4) + g.sequence ≡ 2 * (h.group * n % 4) + h.sequence
    → (g.group ≡ h.group) × (g.sequence ≡ h.sequence))
    (λ w v u s. let e : g.group ≡ h.group = omega arith in (e, omega (arith, ap (λ (x : ℕ). x * 2 % 4) e)))
    (λ w v u s. (omega arith, omega arith))
    l ok

pub same-hi : (l : ℕ) → Length l → (g h : Hi) → g.sequence < 2 * l → h.sequence < 2 * l → mapping_unit l g ≡ mapping_unit l h → slot_of l g ≡ slot_of l h → g ≡ h
unfolding mapping_unit slot_of first_place
same-hi l ok g h w v u s = let e = pair_same l ok g h w v u s in ap₂ (λ (x y : ℕ). record { group = x; sequence = y }) e.0 e.1
