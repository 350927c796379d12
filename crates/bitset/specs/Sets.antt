-- For the loops only: sets of numbers as words of 64 bits, and what the functions on them compute. proofs/Sets.antt says which numbers are members.
use Rattle.std.specs.Prelude.{ℕ, zero, suc, ◌+◌, ◌-◌, ◌*◌, ◌/◌, ◌%◌, ◌^◌, min, Bool, false, not, ◌&&◌, ◌||◌, List, [], ◌∷◌, eqb, leb, ltb, get_or, set}
use Rattle.std.specs.Int.Bits.{bit_and, bit_or, bit_xor}

-- bit i of a number is 1
abbrev pub bit : ℕ → ℕ → Bool
bit x i = eqb (x / 2 ^ i % 2) 1

-- THE MEMBERS: n is one where bit n % 64 of word n / 64 is 1
abbrev pub member : List ℕ → ℕ → Bool
member l n = bit (get_or l (n / 64) 0) (n % 64)

-- 1 shifted up by k in a word; the set l with n
abbrev pub shifted : ℕ → ℕ
shifted k = 1 * 2 ^ k % 2 ^ 64

abbrev pub added : List ℕ → ℕ → List ℕ
added l n = set l (n / 64) (bit_or (get_or l (n / 64) 0) (shifted (n % 64)))

-- the lowest n bits of a word; the k numbers from first on, those of the word from least on, and of two words
unfoldable pub ones_of : ℕ → ℕ
ones_of n = 2 ^ min n 64 - 1

abbrev pub run_word : ℕ → ℕ → ℕ → ℕ
run_word least first k = bit_xor (ones_of (first + k - least)) (ones_of (first - least))

abbrev pub run_of : ℕ → ℕ → List ℕ
run_of first k = run_word 0 first k ∷ run_word 64 first k ∷ []

-- of two sets of two words: whether they have a number in common, and the numbers of either
abbrev pub meet : List ℕ → List ℕ → Bool
meet a b = not (eqb (bit_or (bit_and (get_or a 0 0) (get_or b 0 0)) (bit_and (get_or a 1 0) (get_or b 1 0))) 0)

abbrev pub joined : List ℕ → List ℕ → List ℕ
joined a b = bit_or (get_or a 0 0) (get_or b 0 0) ∷ bit_or (get_or a 1 0) (get_or b 1 0) ∷ []

-- n is one of the k numbers from first on; two such runs have a number in common
abbrev pub within : ℕ → ℕ → ℕ → Bool
within first k n = leb first n && ltb n (first + k)

abbrev pub overlap : ℕ → ℕ → ℕ → ℕ → Bool
overlap a k b m = ltb a (b + m) && ltb b (a + k)

-- some number below n passes
unfoldable pub some_below : ℕ → (ℕ → Bool) → Bool
some_below zero f = false
some_below (suc n) f = f 0 || some_below n (λ (i : ℕ). f (suc i))
