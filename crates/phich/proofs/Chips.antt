-- Parts and bits depend on the scrambling bits at the chips below 12 alone. Assumes nothing.
use Rattle.std.proofs.Common.{◌≡◌, ℕ, ◌+◌, ◌*◌, ◌/◌, ◌%◌, ◌<◌, List, get_or, sym, ap, ◌∙◌, mod-lt, arith}
use Rattle.base.specs.declared.Pair.{Pair}
use Rattle.base.specs.Signs.{below}
use Rattle.base.specs.Pairs.{nil, flipped}
use Rattle.base.specs.Tables.{table}
use Rattle.base.proofs.Tables.{table-length, table_at, filled}
use Rattle.plan.specs.declared.Hi.{Hi}
use Rattle.phich.specs.Spreading.{Length}
use Rattle.phich.specs.Units.{first_place, part_at}
use Rattle.phich.specs.Recovery.{dot, along, bit_in}
use Rattle.phich.proofs.Correlation.{total-same}
use Rattle.phich.proofs.Lengths.{chip-lt}
use Rattle.phich.proofs.Parts.{wave_at, part-wave}

-- two tables agree where their functions do below n
pub table-agree : {A : Type 0} (d : A) (n : ℕ) (f g : ℕ → A) → ((i : ℕ) → i < n → f i ≡ g i) → table n f ≡ table n g
table-agree d n f g h = filled d g n (table n f) (table-length n f) (λ i k. table_at n f d i k ∙ h i k)

module _ (l : ℕ) (ok : Length l) (c c' : ℕ → ℕ) (same : (e : ℕ) → e < 12 → c e ≡ c' e) where
  part-chips : (h : Hi) (b i : ℕ) → i < 12 → part_at l c h b i ≡ part_at l c' h b i
  part-chips h b i k =
      part-wave l ok c h b i
      ∙ ap (λ (x : ℕ). flipped x (flipped b (wave_at l (first_place l h) h.sequence i))) (same (i / 4 * l + i % 4 % l) (chip-lt l ok i (i % 4 % l) k (mod-lt (i % 4) ok.0)))
      ∙ sym (part-wave l ok c' h b i)

  -- from a word's bits to the sequence they are of
  pub bit-chips : (h : Hi) (sums : List Pair) → bit_in l c h sums ≡ bit_in l c' h sums
  unfolding bit_in along
  bit-chips h sums = ap below (total-same 4 _ _ (λ i r. ap (λ (p : Pair). dot p (get_or sums i nil)) (part-chips h 0 i (omega arith))))
