-- What the promises cite. TS 36.211 6.9.1: one PHICH's bit is modulated, spread and scrambled. The length l is N_SF.
use Rattle.std.specs.Prelude.{if◌then◌else◌, ◌≡◌, ℕ, ◌-◌, ◌%◌, ◌<◌, ◌≤◌, cond, List, [], ◌∷◌, get_or, pos, negsuc, ◌+ℤ◌, ◌-ℤ◌, ◌==◌, slice_index_or}
use Rattle.base.specs.declared.Pair.{Pair}
use Rattle.base.specs.Pairs.{flipped}
use Rattle.base.specs.Digits.{dig}
use Rattle.plan.specs.declared.Cell.{Cell}
use Rattle.phich.specs.declared.SignPair.{SignPair}

-- N_SF: 4 with the normal prefix, 2 with the extended one
unfoldable pub spread_length : Cell → ℕ
spread_length cell = if cell.prefix == 1 then 2 else 4

-- such a length, in linear facts
abbrev pub Length : ℕ → Type 0
Length l = (0 < l) × (l ≤ 4) × (l % 2 ≡ 0)

-- Table 6.9.1-2, the spreading sequences [w(0) .. w(N_SF - 1)]
abbrev pub «+1» : SignPair
«+1» = record { re = pos 1; im = pos 0 }

abbrev pub «-1» : SignPair
«-1» = record { re = negsuc 0; im = pos 0 }

abbrev pub «+j» : SignPair
«+j» = record { re = pos 0; im = pos 1 }

abbrev pub «-j» : SignPair
«-j» = record { re = pos 0; im = negsuc 0 }

unfoldable pub normal : List (List SignPair)
normal =
    («+1» ∷ «+1» ∷ «+1» ∷ «+1» ∷ []) ∷ («+1» ∷ «-1» ∷ «+1» ∷ «-1» ∷ []) ∷
    («+1» ∷ «+1» ∷ «-1» ∷ «-1» ∷ []) ∷ («+1» ∷ «-1» ∷ «-1» ∷ «+1» ∷ []) ∷
    («+j» ∷ «+j» ∷ «+j» ∷ «+j» ∷ []) ∷ («+j» ∷ «-j» ∷ «+j» ∷ «-j» ∷ []) ∷
    («+j» ∷ «+j» ∷ «-j» ∷ «-j» ∷ []) ∷ («+j» ∷ «-j» ∷ «-j» ∷ «+j» ∷ []) ∷ []

unfoldable pub extended : List (List SignPair)
extended = («+1» ∷ «+1» ∷ []) ∷ («+1» ∷ «-1» ∷ []) ∷ («+j» ∷ «+j» ∷ []) ∷ («+j» ∷ «-j» ∷ []) ∷ []

-- the 2 l sequences of length l
unfoldable pub sequences : ℕ → List (List SignPair)
sequences l = cond (l == 4) normal extended

-- w(t) of the sequence q, and 0 where there is none
abbrev pub «±0» : SignPair
«±0» = record { re = pos 0; im = pos 0 }

unfoldable pub sign_at : ℕ → ℕ → ℕ → SignPair
sign_at l q t = get_or (slice_index_or (sequences l) q []) t «±0»

-- w z for the bit 0: BPSK of 7.1.1 in unit 2 is z = (1 - 2b)(1 + j)
abbrev pub plain_chip : SignPair → Pair
plain_chip w = record { re = w.re -ℤ w.im; im = w.re +ℤ w.im }

-- d(e) = w(e mod N_SF) (1 - 2c(e)) z(floor(e / N_SF)), the chip e of the sequence q: a bit b is sent three times, so that z
-- is the same for each of the 3 N_SF chips
unfoldable pub chip_at : ℕ → (ℕ → ℕ) → ℕ → ℕ → ℕ → Pair
chip_at l c q b e = flipped (c e) (flipped b (plain_chip (sign_at l q (e % l))))

-- the scrambling bits c(0), .., c(11) as the twelve low bits of a word, c(0) the most significant
unfoldable pub word_bit : ℕ → ℕ → ℕ
word_bit w e = dig w (11 - e)
