-- For the inner contracts and loops only: a run of half blocks, its places in ascending order, and what it means that they are the next
-- places of a channel.
use Rattle.std.specs.Prelude.{ℕ, ◌+◌, ◌*◌, ◌/◌, ◌%◌, ◌^◌, ◌≤◌, ◌<◌, ◌≡◌, Bool, true, eqb}
use Rattle.base.specs.Counts.{cnt, nth}
use Rattle.walk.specs.declared.Run.{Run}

-- the r-th of six subcarriers is open
unfoldable pub bit_of : ℕ → ℕ → Bool
bit_of mask r = eqb (mask / 2 ^ r % 2) 1

-- how many are
unfoldable pub open_count : ℕ → ℕ
open_count mask = cnt (bit_of mask) 6

-- how many places a run has, and the k-th of them, from its first half block on
unfoldable pub run_count : Run → ℕ
run_count r = r.halves * open_count r.mask

unfoldable pub place_at : ℕ → ℕ → ℕ
place_at mask k = 6 * (k / open_count mask) + nth (bit_of mask) 6 (k % open_count mask)

-- THE RUN'S PLACES are those of the indices j, j + 1, .. of a channel that has the places `own` of T
pub record Laid (own : ℕ → Bool) (T j : ℕ) (r : Run) : Type 0 where
  pub before : r.first < T
  pub inside : r.first + 6 * r.halves ≤ T
  pub owned : (k : ℕ) → k < run_count r → own (r.first + place_at r.mask k) ≡ true
  pub index : (k : ℕ) → k < run_count r → cnt own (r.first + place_at r.mask k) ≡ j + k
  pub within : (k : ℕ) → k < run_count r → r.first + place_at r.mask k < T
  pub total : j + run_count r ≤ cnt own T

-- m pairs of places, from `start` on and `step` from one to the next, are those of the indices j, j + 1, ..
pub record PairsAt (own : ℕ → Bool) (T j start step gap m : ℕ) : Type 0 where
  pub first : (i : ℕ) → i < m → own (start + step * i) ≡ true
  pub second : (i : ℕ) → i < m → own (start + step * i + gap) ≡ true
  pub even : (i : ℕ) → i < m → cnt own (start + step * i) ≡ j + 2 * i
  pub odd : (i : ℕ) → i < m → cnt own (start + step * i + gap) ≡ j + 2 * i + 1
  pub within : (i : ℕ) → i < m → start + step * i + gap < T

-- n places e 0, e 1, .. are those of the indices j, j + 1, ..
pub record PlacesAt (own : ℕ → Bool) (T j n : ℕ) (e : ℕ → ℕ) : Type 0 where
  pub owned : (i : ℕ) → i < n → own (e i) ≡ true
  pub index : (i : ℕ) → i < n → cnt own (e i) ≡ j + i
  pub within : (i : ℕ) → i < n → e i < T
