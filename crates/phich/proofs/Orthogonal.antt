-- The test of a table of spreading sequences, computed for both lengths: a unit's slots are at right angles in each quad, and
-- the square of each is 2 l. Assumes nothing.
use Rattle.std.proofs.Common.{◌≡◌, ℕ, ◌*◌, ◌/◌, ◌%◌, ◌<◌, Bool, cond, T, eqb, ℤ, pos, refl, ap, ◌∙◌, eq-eqb, ne_eqb}
use Rattle.base.specs.declared.Pair.{Pair}
use Rattle.base.specs.Signs.{eq_z}
use Rattle.base.proofs.Signs.{eq_z→eq}
use Rattle.base.proofs.Computed.{all_below, below_at}
use Rattle.phich.specs.Spreading.{Length, normal, extended, sequences, sign_at}
use Rattle.phich.specs.Recovery.{dot, total}
use Rattle.phich.proofs.Lengths.{by_length}
use Rattle.phich.proofs.Parts.{wave_at}

-- the wave of the slot s
unfoldable pub slot_wave : ℕ → ℕ → ℕ → Pair
slot_wave l s i = wave_at l (s / (2 * l) * l) (s % (2 * l)) i

unfoldable pub gram : ℕ → ℕ → ℕ → ℤ
gram l s s' = total 4 (λ i. dot (slot_wave l s i) (slot_wave l s' i))

expected : ℕ → ℕ → ℕ → ℤ
expected l s s' = cond (eqb s s') (pos (2 * l)) (pos 0)

orthogonal : ℕ → Bool
orthogonal l = all_below (λ s. all_below (λ s'. eq_z (gram l s s') (expected l s s')) 8) 8

passes : (l : ℕ) → Length l → T (orthogonal l)
unfolding orthogonal gram expected slot_wave wave_at sign_at sequences normal extended total
passes = by_length (λ l. T (orthogonal l)) tt tt

gram-is : (l : ℕ) → Length l → (s s' : ℕ) → s < 8 → s' < 8 → gram l s s' ≡ expected l s s'
unfolding orthogonal
gram-is l ok s s' h h' =
    eq_z→eq (gram l s s') (expected l s s')
    (below_at (λ y. eq_z (gram l s y) (expected l s y)) 8
    (below_at (λ x. all_below (λ y. eq_z (gram l x y) (expected l x y)) 8) 8 (passes l ok) s h) s' h')

pub gram-apart : (l : ℕ) → Length l → (s s' : ℕ) → s < 8 → s' < 8 → (s ≡ s' → ⊥) → gram l s s' ≡ pos 0
unfolding expected
gram-apart l ok s s' h h' ne = gram-is l ok s s' h h' ∙ (ap (λ (t : Bool). cond t (pos (2 * l)) (pos 0)) (ne_eqb s s' ne))

pub gram-same : (l : ℕ) → Length l → (s : ℕ) → s < 8 → gram l s s ≡ pos (2 * l)
unfolding expected
gram-same l ok s h = gram-is l ok s s h h ∙ (ap (λ (t : Bool). cond t (pos (2 * l)) (pos 0)) (eq-eqb s s refl))
