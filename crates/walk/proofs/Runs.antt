-- THE LAWS OF A RUN: its places are the channel's next ones, in ascending order; and those of a run in pairs. Assumes nothing.
use Prim.Native.Nat.{ℕ, zero, suc, ◌+◌, ◌*◌, ◌/◌, ◌%◌, ◌≤◌, ◌<◌}
use mathlib.Core.Path.{◌≡◌, refl, sym, ap, ◌∙◌}
use mathlib.Core.Bool.{Bool, true}
use native.Mathlib.Nat.{div-lt_iff_lt-mul, div-add-mod', mod-lt, mul-zero, suc-mul, mul_assoc, mul_comm, mul-add}
use native.Mathlib.Omega.{arith}
use Rattle.base.specs.Counts.{cnt, nth}
use Rattle.base.proofs.Counts.{cnt-add, cnt-same, nth-is}
use Rattle.walk.specs.declared.Run.{Run}
use Rattle.walk.specs.Runs.{bit_of, open_count, run_count, place_at, Laid, PairsAt}
use Rattle.walk.specs.Forms.{Paired, PairForm, all-six, pairs-left, pairs-right, pairs-apart}
use Rattle.walk.proofs.Forms.{six-pairs, left-pairs, right-pairs, apart-pairs}

-- ---- the k-th place of n half blocks is inside them
module _ (mask n k : ℕ) (few : k < n * open_count mask) where
  some : 0 < open_count mask
  some = pick (open_count mask) few
    where
      pick : (x : ℕ) → k < n * x → 0 < x
      pick zero h = absurd (omega (arith, mul-zero n))
      pick (suc x) h = omega arith

  early : k / open_count mask < n
  early = (div-lt_iff_lt-mul some).1 few

  pub within-at : place_at mask k < 6 * n
  unfolding place_at open_count
  within-at = let i = nth-is (bit_of mask) 6 (k % open_count mask) (mod-lt k some) in omega (arith, i.1, early)

-- ---- n half blocks of one form from `first` on
module _ (own : ℕ → Bool) (mask first n : ℕ) (halves : (b r : ℕ) → b < n → r < 6 → own (first + (6 * b + r)) ≡ bit_of mask r) where
  part : (b r : ℕ) → b < n → r ≤ 6 → cnt own (first + (6 * b + r)) ≡ cnt own (first + 6 * b) + cnt (bit_of mask) r
  part b r h l =
      let e : first + (6 * b + r) ≡ first + 6 * b + r = omega arith in
      ap (cnt own) e ∙ cnt-add own (first + 6 * b) r
      ∙ ap (λ (x : ℕ). cnt own (first + 6 * b) + x)
      (cnt-same (λ (t : ℕ). own (first + 6 * b + t)) (bit_of mask) r
      (λ t m. let d : first + 6 * b + t ≡ first + (6 * b + t) = omega arith in ap own d ∙ halves b t h (omega arith)))

  pub halves-count : (b : ℕ) → b ≤ n → cnt own (first + 6 * b) ≡ cnt own first + b * open_count mask
  unfolding open_count
  halves-count zero h =
      let e : first + 6 * 0 ≡ first = omega arith in
      let z : 0 * cnt (bit_of mask) 6 ≡ 0 = omega arith in
      ap (cnt own) e ∙ (rw z (omega arith))
  halves-count (suc b) h =
      let e : first + 6 * suc b ≡ first + (6 * b + 6) = omega arith in
      ap (cnt own) e ∙ part b 6 (omega arith) (omega arith)
      ∙ (omega (arith, halves-count b (omega arith), suc-mul b (cnt (bit_of mask) 6)))

  module _ (k : ℕ) (few : k < n * open_count mask) where
    pub owned_at : own (first + place_at mask k) ≡ true
    unfolding place_at open_count
    owned_at =
        let i = nth-is (bit_of mask) 6 (k % open_count mask) (mod-lt k (some mask n k few)) in
        halves (k / open_count mask) _ (early mask n k few) i.1 ∙ i.0

    pub index_at : cnt own (first + place_at mask k) ≡ cnt own first + k
    unfolding place_at open_count
    index_at =
        let i = nth-is (bit_of mask) 6 (k % open_count mask) (mod-lt k (some mask n k few)) in
        part (k / open_count mask) (nth (bit_of mask) 6 (k % open_count mask)) (early mask n k few) (omega (arith, i.1))
        ∙ (omega (arith, halves-count (k / open_count mask) (omega (arith, early mask n k few)), i.2, div-add-mod' k (open_count mask)))

-- the pairs of a run
pub pair-count : (mask n : ℕ) {off step gap per : ℕ} → Paired mask off step gap per → n * open_count mask ≡ 2 * (n * per)
pair-count mask n {per = per} p = ap (λ (x : ℕ). n * x) p.each ∙ sym (mul_assoc n 2 per) ∙ ap (λ (x : ℕ). x * per) (mul_comm n 2) ∙ mul_assoc 2 n per

pub pair_inside : (mask n : ℕ) {off step gap per : ℕ} → Paired mask off step gap per → (i : ℕ) → i < n * per → off + step * i + gap < 6 * n
pair_inside mask n p i h = omega (arith, p.odd i, within-at mask n (2 * i + 1) (omega (arith, pair-count mask n p)))

pub pairs_of :
    {own : ℕ → Bool} {T j : ℕ} {r : Run} {off step gap per : ℕ} → Laid own T j r → Paired r.mask off step gap per
    → PairsAt own T j (r.first + off) step gap (r.halves * per)
unfolding run_count
pairs_of {own} {T} {j} {r} {off} {step} {gap} {per} l p =
    record {
      first = λ i h. ap own (at i) ∙ l.owned (2 * i) (few i h);
      second = λ i h. ap own (next i) ∙ l.owned (2 * i + 1) (few' i h);
      even = λ i h. ap (cnt own) (at i) ∙ l.index (2 * i) (few i h);
      odd = λ i h. ap (cnt own) (next i) ∙ l.index (2 * i + 1) (few' i h) ∙ (omega arith);
      within = λ i h. omega (arith, next i, l.within (2 * i + 1) (few' i h));
    }
  where
    at : (i : ℕ) → r.first + off + step * i ≡ r.first + place_at r.mask (2 * i)
    at i = omega (arith, p.even i)

    next : (i : ℕ) → r.first + off + step * i + gap ≡ r.first + place_at r.mask (2 * i + 1)
    next i = omega (arith, p.odd i)

    few : (i : ℕ) → i < r.halves * per → 2 * i < r.halves * open_count r.mask
    few i h = omega (arith, pair-count r.mask r.halves p)

    few' : (i : ℕ) → i < r.halves * per → 2 * i + 1 < r.halves * open_count r.mask
    few' i h = omega (arith, pair-count r.mask r.halves p)

pub pairs-fewer : {own : ℕ → Bool} {T j start step gap m : ℕ} (n : ℕ) → n ≤ m → PairsAt own T j start step gap m → PairsAt own T j start step gap n
pairs-fewer n l p =
    record {
      first = λ i h. p.first i (omega arith);
      second = λ i h. p.second i (omega arith);
      even = λ i h. p.even i (omega arith);
      odd = λ i h. p.odd i (omega arith);
      within = λ i h. p.within i (omega arith);
    }

pub pairs-later :
    {own : ℕ → Bool} {T j start step gap m : ℕ} (n k : ℕ) → n + k ≤ m → PairsAt own T j start step gap m
    → PairsAt own T (j + 2 * n) (start + step * n) step gap k
pairs-later {own} {T} {j} {start} {step} {gap} {m} n k l p =
    record {
      first = λ i h. ap own (at i) ∙ p.first (n + i) (omega arith);
      second = λ i h. ap (λ (x : ℕ). own (x + gap)) (at i) ∙ p.second (n + i) (omega arith);
      even = λ i h. ap (cnt own) (at i) ∙ p.even (n + i) (omega arith) ∙ (omega arith);
      odd = λ i h. ap (λ (x : ℕ). cnt own (x + gap)) (at i) ∙ p.odd (n + i) (omega arith) ∙ (omega arith);
      within = λ i h. omega (arith, at i, p.within (n + i) (omega arith));
    }
  where
    at : (i : ℕ) → start + step * n + step * i ≡ start + step * (n + i)
    at i = omega (arith, mul-add step n i)

-- a run of one of these forms has an even number of places
pub form-even : (r : Run) → PairForm r.mask → run_count r % 2 ≡ 0
unfolding run_count
form-even r f = pick r.mask f
  where
    twice : (mask : ℕ) {off step gap per : ℕ} → Paired mask off step gap per → r.halves * open_count mask % 2 ≡ 0
    twice mask p = omega (arith, pair-count mask r.halves p)

    pick : (mask : ℕ) → PairForm mask → r.halves * open_count mask % 2 ≡ 0
    pick _ all-six = twice 63 (six-pairs refl)
    pick _ pairs-left = twice 27 (left-pairs refl)
    pick _ pairs-right = twice 54 (right-pairs refl)
    pick _ pairs-apart = twice 45 (apart-pairs refl)

pub six-count : (r : Run) → r.mask ≡ 63 → 6 * r.halves ≡ run_count r
unfolding run_count
six-count r e = omega (arith, pair-count r.mask r.halves (six-pairs e))
