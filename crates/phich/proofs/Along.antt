-- One HI along another: the scrambling falls out, other units and other slots give 0, the HI itself 2 l. Assumes nothing.
use Rattle.std.proofs.Common.{◌≡◌, ℕ, suc, ◌+◌, ◌*◌, ◌/◌, ◌%◌, ◌<◌, Bool, true, false, cond, eqb, List, ◌∷◌, ℤ, pos, ◌+ℤ◌, sym, refl, ap, ◌∙◌, ap₂, eq-eqb, ne_eqb}
use native.Mathlib.Decide.{ℕ_discrete}
use Rattle.base.specs.declared.Pair.{Pair}
use Rattle.base.specs.Signs.{flip}
use Rattle.base.specs.Pairs.{nil, plus, flipped}
use Rattle.base.proofs.Pairs.{flipped-flipped, flipped-nil}
use Rattle.plan.specs.declared.Hi.{Hi}
use Rattle.phich.specs.Spreading.{Length, sign_at, plain_chip, chip_at}
use Rattle.phich.specs.Units.{mapping_unit, first_place, has, chip_number, part_at, added_at, sum_at}
use Rattle.phich.specs.Recovery.{dot, along}
use Rattle.phich.proofs.Correlation.{dot-plus, dot-nil, dot-flip, dot-flipped, total-same, total-add, total-flip, total-zero}
use Rattle.phich.proofs.Parts.{wave_at, part-wave}
use Rattle.phich.proofs.Slots.{slot_of, slot_lt, slot-first, slot-sequence, same-hi}
use Rattle.phich.proofs.Orthogonal.{slot_wave, gram, gram-apart, gram-same}

module _ (l : ℕ) (c : ℕ → ℕ) where
  -- ---- a flip by the bit comes out of a part
  part-flip : (h : Hi) (b i : ℕ) → part_at l c h b i ≡ flipped b (part_at l c h 0 i)
  unfolding part_at chip_at
  part-flip h b i = pick (has l h i)
    where
      pick : (t : Bool) → cond t (chip_at l c h.sequence b (chip_number l h i)) nil ≡ flipped b (cond t (chip_at l c h.sequence 0 (chip_number l h i)) nil)
      pick true = flipped-flipped (c (chip_number l h i)) b (plain_chip (sign_at l h.sequence (chip_number l h i % l)))
      pick false = sym (flipped-nil b)

  added-flip : (m : ℕ) (h : Hi) (b i : ℕ) → added_at l c m h b i ≡ flipped b (added_at l c m h 0 i)
  unfolding added_at
  added-flip m h b i = pick (eqb (mapping_unit l h) m)
    where
      pick : (t : Bool) → cond t (part_at l c h b i) nil ≡ flipped b (cond t (part_at l c h 0 i) nil)
      pick true = part-flip h b i
      pick false = sym (flipped-nil b)

  -- ---- along is additive
  pub along-nil : (g : Hi) → along l c g (λ i. nil) ≡ pos 0
  unfolding along
  along-nil g = total-same 4 _ _ (λ i _. dot-nil (part_at l c g 0 i)) ∙ total-zero 4

  pub along-same : (g : Hi) (s s' : ℕ → Pair) → ((i : ℕ) → i < 4 → s i ≡ s' i) → along l c g s ≡ along l c g s'
  unfolding along
  along-same g s s' h = total-same 4 _ _ (λ i k. ap (dot (part_at l c g 0 i)) (h i k))

  along-plus : (g : Hi) (s s' : ℕ → Pair) → along l c g (λ i. plus (s i) (s' i)) ≡ along l c g s +ℤ along l c g s'
  unfolding along
  along-plus g s s' =
      total-same 4 _ _ (λ i _. dot-plus (part_at l c g 0 i) (s i) (s' i))
      ∙ total-add 4 (λ i. dot (part_at l c g 0 i) (s i)) (λ i. dot (part_at l c g 0 i) (s' i))

  along-flip : (g : Hi) (b : ℕ) (s : ℕ → Pair) → along l c g (λ i. flipped b (s i)) ≡ flip b (along l c g s)
  unfolding along
  along-flip g b s = total-same 4 _ _ (λ i _. dot-flip b (part_at l c g 0 i) (s i)) ∙ total-flip 4 b (λ i. dot (part_at l c g 0 i) (s i))

  -- the sums, along g: an HI at a time
  pub along-sum :
      (g : Hi) (m : ℕ) (bit : ℕ → ℕ) (h : Hi) (hs : List Hi) (k : ℕ) → along l c g (λ i. sum_at l c m bit i (h ∷ hs) k) ≡ flip (bit k) (along l c g (added_at l c m h 0)) +ℤ along l c
      g (λ i. sum_at l c m bit i hs (suc k))
  unfolding sum_at
  along-sum g m bit h hs k =
      along-plus g (added_at l c m h (bit k)) (λ i. sum_at l c m bit i hs (suc k))
      ∙ ap (λ (x : ℤ). x +ℤ along l c g (λ i. sum_at l c m bit i hs (suc k)))
      (along-same g _ _ (λ i _. added-flip m h (bit k) i) ∙ along-flip g (bit k) (added_at l c m h 0))

  other-unit : (g : Hi) (m : ℕ) (h : Hi) → (mapping_unit l h ≡ m → ⊥) → along l c g (added_at l c m h 0) ≡ pos 0
  unfolding added_at
  other-unit g m h ne = along-same g _ _ (λ i _. ap (λ (t : Bool). cond t (part_at l c h 0 i) nil) (ne_eqb _ _ ne)) ∙ along-nil g

-- ---- one length
module _ (l : ℕ) (ok : Length l) (c : ℕ → ℕ) where
  slot-wave : (h : Hi) → h.sequence < 2 * l → (i : ℕ) → wave_at l (first_place l h) h.sequence i ≡ slot_wave l (slot_of l h) i
  unfolding slot_wave
  slot-wave h w i = sym (ap₂ (λ (f q : ℕ). wave_at l f q i) (slot-first l ok h w) (slot-sequence l ok h w))

  part-dot : (g h : Hi) → g.sequence < 2 * l → h.sequence < 2 * l → (i : ℕ) → dot (part_at l c g 0 i) (part_at l c h 0 i) ≡ dot (slot_wave l (slot_of l g) i) (slot_wave l (slot_of l h) i)
  part-dot g h wg wh i =
      ap₂ dot (part-wave l ok c g 0 i) (part-wave l ok c h 0 i)
      ∙ dot-flipped (c (i / 4 * l + i % 4 % l)) (wave_at l (first_place l g) g.sequence i) (wave_at l (first_place l h) h.sequence i)
      ∙ ap₂ dot (slot-wave g wg i) (slot-wave h wh i)

  same-unit : (g : Hi) (m : ℕ) (h : Hi) → g.sequence < 2 * l → h.sequence < 2 * l → mapping_unit l h ≡ m → along l c g (added_at l c m h 0) ≡ gram l (slot_of l g) (slot_of l h)
  unfolding added_at along gram
  same-unit g m h wg wh e =
      along-same l c g _ _ (λ i _. ap (λ (t : Bool). cond t (part_at l c h 0 i) nil) (eq-eqb _ _ e))
      ∙ total-same 4 _ _ (λ i _. part-dot g h wg wh i)

  -- another HI gives 0
  pub apart : (g h : Hi) → g.sequence < 2 * l → h.sequence < 2 * l → (g ≡ h → ⊥) → along l c g (added_at l c (mapping_unit l g) h 0) ≡ pos 0
  apart g h wg wh ne = pick (ℕ_discrete (mapping_unit l h) (mapping_unit l g))
    where
      pick : Dec (mapping_unit l h ≡ mapping_unit l g) → along l c g (added_at l c (mapping_unit l g) h 0) ≡ pos 0
      pick (yes u) =
          same-unit g (mapping_unit l g) h wg wh u
          ∙ gram-apart l ok (slot_of l g) (slot_of l h) (slot_lt l ok g wg) (slot_lt l ok h wh) (λ s. ne (same-hi l ok g h wg wh (sym u) s))
      pick (no u) = other-unit l c g (mapping_unit l g) h u

  -- and the HI itself its square
  pub square : (g : Hi) → g.sequence < 2 * l → along l c g (added_at l c (mapping_unit l g) g 0) ≡ pos (2 * l)
  square g wg = same-unit g (mapping_unit l g) g wg wg refl ∙ gram-same l ok (slot_of l g) (slot_lt l ok g wg)
