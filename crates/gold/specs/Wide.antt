-- For inner contracts only, of `widen`, `narrow`, `word48`, `advance48` and those above them: 64 values of each sequence, as two numbers,
-- whatever bits the pair holds.
use Rattle.std.specs.Prelude.{ℕ, ◌%◌, ◌^◌, ◌≡◌}
use Rattle.base.specs.Digits.{dig}
use Rattle.gold.specs.Sequence.{binary}
use Rattle.gold.specs.Steps.{after, word_of}
use Rattle.gold.specs.declared.Registers.{Registers}
use Rattle.gold.specs.declared.Wide.{Wide}

-- value i of a register of the pair, given by its field: the first of the 31 that it holds after i steps
abbrev pub value : (Registers → ℕ) → Registers → ℕ → ℕ
value π r i = dig (π (after r i)) 30

abbrev pub first : Registers → ℕ
first r = r.x1

abbrev pub second : Registers → ℕ
second r = r.x2

-- the first 64 values of both
unfoldable pub wide_of : Registers → Wide
wide_of r = record { x1 = binary (value first r) 0 64; x2 = binary (value second r) 0 64 }

-- What `word48`, `advance48` and `narrow` give, of whatever pair w has the values. A register's bit 31 is none of them: `narrow` gives it
-- as 0. A pair that steps, or has stepped, does not depend on it: `narrow-after` of proofs/Values64.antt.
pub record Gives48 (w : Wide) (v : ℕ) : Type 0 where
  pub bits : (r : Registers) → w ≡ wide_of r → v ≡ word_of r 48

pub record Goes48 (w s : Wide) : Type 0 where
  pub goes : (r : Registers) → w ≡ wide_of r → s ≡ wide_of (after r 48)

unfoldable pub first31 : Registers → Registers
first31 r = record { x1 = r.x1 % 2 ^ 31; x2 = r.x2 % 2 ^ 31 }

pub record Narrows (w : Wide) (s : Registers) : Type 0 where
  pub narrowed : (r : Registers) → w ≡ wide_of r → s ≡ first31 r
