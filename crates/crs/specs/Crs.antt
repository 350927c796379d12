-- What the promises cite. TS 36.211 6.10.1.1 and 6.10.1.2, document 01 "CRS": the values of the cell-specific reference signals.
use Rattle.std.specs.Prelude.{ℕ, zero, suc, ◌+◌, ◌-◌, ◌*◌, ◌/◌, ◌%◌, pos}
use Rattle.base.specs.declared.Pair.{Pair}
use Rattle.base.specs.Signs.{flip}
use Rattle.gold.specs.Sequence.{c}

-- N_CP: 1 with the normal prefix (0 in the plan), 0 with the extended one
unfoldable pub normal_prefix : ℕ → ℕ
normal_prefix zero = 1
normal_prefix (suc p) = 0

-- "c_init = 1024(7(n+1)+l+1)(2C+1)+2C+(1 normal, 0 extended)", in slot n and its symbol l
unfoldable pub crs_init : ℕ → ℕ → ℕ → ℕ → ℕ
crs_init prefix C n l = 1024 * (7 * (n + 1) + l + 1) * (2 * C + 1) + 2 * C + normal_prefix prefix

-- "m' = m+110−N"
unfoldable pub in_widest : ℕ → ℕ → ℕ
in_widest N m = m + 110 - N

-- "value ((1−2c(2m')), (1−2c(2m'+1)))", unit 2
unfoldable pub crs_value : ℕ → ℕ → ℕ → ℕ → ℕ → ℕ → Pair
crs_value prefix C N n l m =
    let init = crs_init prefix C n l in
    let k = 2 * in_widest N m in
    record { re = flip (c init k) (pos 1); im = flip (c init (k + 1)) (pos 1) }

-- the value of two bits as a word, the first more significant
unfoldable pub word_value : ℕ → Pair
word_value word = record { re = flip (word / 2) (pos 1); im = flip (word % 2) (pos 1) }
