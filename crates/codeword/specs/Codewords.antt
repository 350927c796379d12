-- What the promises cite. TS 36.211 6.3.1 and 6.3.2 (6.6.1, 6.6.2, 6.7.1 and 6.7.2 alike): the bits of a channel are scrambled and
-- modulated. b gives a channel's bits by their number, x the scrambling sequence.
use Rattle.std.specs.Prelude.{ℕ, ◌+◌, ◌-◌, ◌*◌, ◌%◌, [], ◌∷◌, get_or}
use Rattle.base.specs.declared.Pair.{Pair}
use Rattle.gold.specs.Sequence.{binary}
use Rattle.modulation.specs.Symbols.{modulation_symbol}

-- 6.3.1 (one codeword), 6.6.1 and 6.7.1: b~(i) = (b(i) + c(i)) mod 2
unfoldable pub scrambled : (ℕ → ℕ) → (ℕ → ℕ) → ℕ → ℕ
scrambled b x i = (b i + x i) % 2

-- 6.3.2: the symbol d(j), that of the Q bits from b~(Qj) on
unfoldable pub data_symbol : ℕ → (ℕ → ℕ) → (ℕ → ℕ) → ℕ → Pair
data_symbol Q b x j = modulation_symbol Q (binary (scrambled b x) (Q * j) Q)

-- PCFICH: "32-bit codewords repeat 011, 101, 110 for CFI 1, 2, 3" (TS 36.212 table 5.3.4-1): bit i
unfoldable pub cfi_bit : ℕ → ℕ → ℕ
cfi_bit cfi i = get_or (get_or ((0 ∷ 1 ∷ 1 ∷ []) ∷ (1 ∷ 0 ∷ 1 ∷ []) ∷ (1 ∷ 1 ∷ 0 ∷ []) ∷ []) (cfi - 1) []) (i % 3) 0
