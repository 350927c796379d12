-- For inner contracts, laws, and read's equation, which `Reads` determines. An HI's bit from its unit's sums: the first quad along the
-- HI's own chips, at right angles to all others.
use Rattle.std.specs.Prelude.{ℕ, zero, suc, List, ℤ, pos, ◌+ℤ◌, slice_index_or}
use Rattle.base.specs.declared.Pair.{Pair}
use Rattle.base.specs.Signs.{by, below}
use Rattle.base.specs.Pairs.{nil}
use Rattle.plan.specs.declared.Hi.{Hi}
use Rattle.phich.specs.Units.{part_at}

-- the product of two pairs as vectors, the first a pair of signs
abbrev pub dot : Pair → Pair → ℤ
dot s p = by s.re p.re +ℤ by s.im p.im

-- f 0 + f 1 + .. + f (n - 1)
unfoldable pub total : ℕ → (ℕ → ℤ) → ℤ
total zero f = pos 0
total (suc n) f = total n f +ℤ f n

-- the four places of the first quad along the HI h with bit 0
unfoldable pub along : ℕ → (ℕ → ℕ) → Hi → (ℕ → Pair) → ℤ
along l c h s = total 4 (λ (i : ℕ). dot (part_at l c h 0 i) (s i))

-- h's bit: 1 where that is below 0
unfoldable pub bit_in : ℕ → (ℕ → ℕ) → Hi → List Pair → ℕ
bit_in l c h sums = below (along l c h (λ (i : ℕ). slice_index_or sums i nil))
