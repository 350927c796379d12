-- For the inner contracts and loops only: the subcarriers of six that have no reference signal, as a mask, and the centre's half blocks.
use Rattle.std.specs.Prelude.{ℕ, ◌+◌, ◌-◌, ◌/◌, ◌%◌, ◌^◌, ◌≤◌, ◌<◌, ◌≡◌, Bool, cond, ◌&&◌, leb, ltb, eqb}
use Rattle.plan.specs.declared.Cell.{Cell}
use Rattle.counts.specs.Users.{taken as taken_row}
use Rattle.places.specs.Halves.{without}
use Rattle.walk.specs.Forms.{PairForm, SingleForm}
use Rattle.areas.specs.declared.Area.{Area}

-- six subcarriers as the bits of a number: bit v if it is named
unfoldable pub bit_if : Bool → ℕ → ℕ
bit_if t v = cond t (32 / 2 ^ (5 - v)) 0

-- all but the v-th, if a, and the one three further, if b
unfoldable pub mask_but : ℕ → Bool → Bool → ℕ
mask_but v a b = 63 - bit_if a v - bit_if b ((v + 3) % 6)

-- bit r of the mask says whether the r-th of six subcarriers of symbol s has no reference signal; it is one of the forms of the walk
pub record Masks (c : Cell) (P s mask : ℕ) : Type 0 where
  pub bits : (r : ℕ) → r < 6 → eqb (mask / 2 ^ r % 2) 1 ≡ without c P s r
  pub single : SingleForm mask
  pub pairs : 2 ≤ P → (P ≡ 3 → ⊥) → PairForm mask

-- half block b is one of the centre's twelve, and those are left out
unfoldable pub centre_out : ℕ → Bool → ℕ → Bool
centre_out N out b = out && (leb N (b + 6) && ltb b (N + 6))

-- symbol s has synchronisation marks or PBCH in its centre, and the area leaves them out
abbrev pub leaves_row : Area → ℕ → Bool
leaves_row a s = a.leaves && taken_row a.cell a.frame s
