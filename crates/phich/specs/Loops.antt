-- For the loops only: sums of quads as bytes. Place y is place y % 4 of unit y / 4, and its levels I and J are bytes 2y and 2y + 1.
use Rattle.std.specs.Prelude.{◌≡◌, ℕ, ◌+◌, ◌-◌, ◌*◌, ◌/◌, ◌%◌, ◌<◌, cond, List, length, drop, ℤ, pos, negsuc, ◌==◌, slice_index, slice_index_or}
use Rattle.base.specs.declared.Pair.{Pair}
use Rattle.base.specs.Bytes.{signed_of}
use Rattle.base.specs.Pairs.{nil, plus, flipped, Small}
use Rattle.base.specs.Tables.{table}
use Rattle.plan.specs.declared.Hi.{Hi}
use Rattle.plan.specs.CommandLists.{his_from}
use Rattle.phich.specs.His.{hi_number}
use Rattle.phich.specs.declared.SignPair.{SignPair}
use Rattle.phich.specs.Spreading.{Length, «±0», sign_at}
use Rattle.phich.specs.Units.{mapping_unit, added_at, sum_at}
use Rattle.phich.specs.Recovery.{bit_in}

-- an HI with a sequence of the length in one of 25 units, and `count` of them from position `at` of the plan on
pub record HiIn (l : ℕ) (h : Hi) : Type 0 where
  pub spread : Length l
  pub known : h.sequence < 2 * l
  pub unit : mapping_unit l h < 25

pub record HisIn (l : ℕ) (plan : List ℕ) (at count : ℕ) : Type 0 where
  pub each : (n : ℕ) → n < count → HiIn l (hi_number (his_from (drop at plan) count) n)

-- the entries of the sequence q
pub record Sequence (l q : ℕ) (row : List SignPair) : Type 0 where
  pub entries : (t : ℕ) → t < l → slice_index_or row t «±0» ≡ sign_at l q t

-- the number of the chip at place i of a unit, whichever of its groups has the place
abbrev pub chip_of : ℕ → ℕ → ℕ
chip_of l i = i / 4 * l + i % 4 % l

-- without scrambling every scrambling bit is 0
abbrev pub unscrambled : ℕ → ℕ
unscrambled e = 0

-- what the HI h with the bit b adds at place y, and the sum there
unfoldable pub own_part : ℕ → Hi → ℕ → ℕ → Pair
own_part l h b y = added_at l unscrambled (y / 4) h b (y % 4)

unfoldable pub quad_sum : ℕ → (ℕ → ℕ) → List Hi → ℕ → Pair
quad_sum l bit hs y = sum_at l unscrambled (y / 4) bit (y % 4) hs 0

-- d at place y alone
unfoldable pub only : ℕ → Pair → ℕ → Pair
only y d z = cond (z == y) d nil

-- a number modulo 256
unfoldable pub residue : ℤ → ℕ
residue (pos n) = n % 256
residue (negsuc n) = 255 - n % 256

-- the bytes of place y are the levels of d, modulo 256
pub record Holds (s : List ℕ) (y : ℕ) (d : Pair) : Type 0 where
  pub re : slice_index_or s (2 * y) 0 ≡ residue d.re
  pub im : slice_index_or s (2 * y + 1) 0 ≡ residue d.im

-- f is added at each place
pub record Adds (f : ℕ → Pair) (before after : List ℕ) : Type 0 where
  pub size : length after ≡ length before
  pub adds : (y : ℕ) → y < 100 → (d : Pair) → Holds before y d → Holds after y (plus d (f y))

-- the sums over the HIs hs
pub record QuadSums (l : ℕ) (bit : ℕ → ℕ) (hs : List Hi) (s : List ℕ) : Type 0 where
  pub size : length s ≡ 200
  pub sums : (y : ℕ) → y < 100 → Holds s y (quad_sum l bit hs y)

-- bytes taken as levels, and the four places of unit m
abbrev pub levels_at : List ℕ → ℕ → Pair
levels_at s y = record { re = signed_of (slice_index s (2 * y)); im = signed_of (slice_index s (2 * y + 1)) }

unfoldable pub quad_of : List ℕ → ℕ → List Pair
quad_of s m = table 4 (λ (i : ℕ). levels_at s (4 * m + i))

-- the bits of the HIs hs that these give with the scrambling bits x
unfoldable pub bits_from : ℕ → (ℕ → ℕ) → List Hi → List ℕ → ℕ → ℕ
bits_from l x hs s n = bit_in l x (hi_number hs n) (quad_of s (mapping_unit l (hi_number hs n)))

-- the eight bytes of one unit's places, with levels of at most n either way
pub record Levels (n : ℕ) (part : List ℕ) : Type 0 where
  pub size : length part ≡ 8
  pub small : (i : ℕ) → i < 4 → Small n (levels_at part i)

-- the unit's twelve sums, scrambled
unfoldable pub scrambled_sums : ℕ → (ℕ → ℕ) → List ℕ → List Pair
scrambled_sums l x part = table 12 (λ (i : ℕ). flipped (x (chip_of l i)) (levels_at part (i % 4)))
