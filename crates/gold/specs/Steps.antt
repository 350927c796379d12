-- For inner contracts only, of `advance`, `skip`, `word` and those above them: the register pair one step at a time, whatever bits it holds.
-- That a pair which stands at c(k) goes along the sequence is `pair-after` and `pair-word` of proofs/Laws.antt.
-- A register is the number whose 31 binary digits, the first most significant, are x(n), .., x(n + 30): x(n + i) is bit 30 - i.
use Rattle.std.specs.Prelude.{ℕ, zero, suc, ◌+◌, ◌*◌, ◌%◌, ◌^◌}
use Rattle.base.specs.Digits.{dig}
use Rattle.gold.specs.Sequence.{binary}
use Rattle.gold.specs.declared.Registers.{Registers}

-- x(n) falls out, and f comes in as x(n + 31)
abbrev pub shift : ℕ → ℕ → ℕ
shift x f = x % 2 ^ 30 * 2 + f

-- x1(n+3) + x1(n)
abbrev pub sum1 : ℕ → ℕ
sum1 x = (dig x 27 + dig x 30) % 2

-- x2(n+3) + x2(n+2) + x2(n+1) + x2(n)
abbrev pub sum2 : ℕ → ℕ
sum2 x = (dig x 27 + dig x 28 + dig x 29 + dig x 30) % 2

unfoldable pub stepped : Registers → Registers
stepped r = record { x1 = shift r.x1 (sum1 r.x1); x2 = shift r.x2 (sum2 r.x2) }

-- the pair after n steps
unfoldable pub after : Registers → ℕ → Registers
after r zero = r
after r (suc n) = stepped (after r n)

-- the bit that the pair gives: x1(n) + x2(n) mod 2
unfoldable pub output_of : Registers → ℕ
output_of r = (dig r.x1 30 + dig r.x2 30) % 2

-- the next n bits, the first most significant
unfoldable pub word_of : Registers → ℕ → ℕ
word_of r n = binary (λ (i : ℕ). output_of (after r i)) 0 n
