-- What the promises cite. TS 36.211 7.1: bits to levels (I, J), before their unit (document 01: the value is (I + jJ) / √u).
use Rattle.std.specs.Prelude.{ℕ, zero, suc, ◌%◌, ◌^◌, ◌≤◌, ◌≡◌, cond, List, [], ◌∷◌, length, eqb, ℤ, pos, ◌-ℤ◌}
use Rattle.base.specs.Signs.{flip}
use Rattle.base.specs.Digits.{dig}
use Rattle.base.specs.declared.Pair.{Pair}

-- "modulation Q u8 (2, 4, 6 bits)": QPSK, 16QAM, 64QAM; "modulation 8 joins Q" (document 02, #109): 256QAM
abbrev pub Order : ℕ → Type 0
Order q = (q % 2 ≡ 0) × (2 ≤ q) × (q ≤ 8)

-- b0, b1, ..: the q lowest binary digits of a word, most significant first
unfoldable pub bits_of : ℕ → ℕ → List ℕ
bits_of zero w = []
bits_of (suc q) w = dig w q ∷ bits_of q w

-- b0, b2, b4, ..
unfoldable pub evens : List ℕ → List ℕ
evens [] = []
evens (a ∷ []) = a ∷ []
evens (a ∷ b ∷ bs) = a ∷ evens bs

-- b1, b3, b5, ..
unfoldable pub odds : List ℕ → List ℕ
odds [] = []
odds (b ∷ bs) = evens bs

-- 36.211 7.1.2 to 7.1.5. One bit: 1 - 2b; two: (1 - 2b)(2 - (1 - 2b')); three: (1 - 2b)(4 - (1 - 2b')(2 - (1 - 2b''))); four, of 256QAM:
-- "(1−2b0)(8−(1−2b2)(4−(1−2b4)(2−(1−2b6))))"; so (1 - 2b) times what 2 ^ n exceeds the level of the n bits that follow by
unfoldable pub level : List ℕ → ℤ
level [] = pos 0
level (b ∷ bs) = flip b (pos (2 ^ length bs) -ℤ level bs)

-- I from the even bits, "J from odd bits"
unfoldable pub modulation_symbol : ℕ → ℕ → Pair
modulation_symbol q w = record { re = level (evens (bits_of q w)); im = level (odds (bits_of q w)) }

-- "Units 2, 10, 42" by the order, "Unit 170" of 256QAM (document 02, #109); an order more is a row more
abbrev pub units : List (ℕ × ℕ)
units = (2, 2) ∷ (4, 10) ∷ (6, 42) ∷ (8, 170) ∷ []

unfoldable pub unit_in : List (ℕ × ℕ) → ℕ → ℕ
unit_in [] q = 0
unit_in (r ∷ rs) q = cond (eqb q r.0) r.1 (unit_in rs q)

-- the unit of an order, and 0 of no order
unfoldable pub unit_of : ℕ → ℕ
unit_of q = unit_in units q
