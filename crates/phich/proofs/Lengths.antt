-- What holds of the lengths 2 and 4 holds of each spreading length; a group's places in a quad. Assumes nothing.
use Rattle.std.proofs.Common.{◌≡◌, ℕ, ◌+◌, ◌-◌, ◌*◌, ◌/◌, ◌%◌, ◌<◌, ◌≤◌, sym, ◌∙◌, subst, mod-eq_of_lt, arith}
use native.Mathlib.Decide.{ℕ_discrete}
use native.Mathlib.Nat.{mul-add-mod_self_right}
use Rattle.phich.specs.Spreading.{Length}

pub by_length : (P : ℕ → Type 0) → P 2 → P 4 → (l : ℕ) → Length l → P l
by_length P two four l h = pick (ℕ_discrete l 2)
  where
    pick : Dec (l ≡ 2) → P l
    pick (yes e) = subst P (sym e) two
    pick (no e) = let f : 4 ≡ l = omega arith in subst P f four

-- ---- chip number n of quad i / 4
pub chip-lt : (l : ℕ) → Length l → (i n : ℕ) → i < 12 → n < l → i / 4 * l + n < 12
chip-lt l h i n k = by_length (λ m. n < m → i / 4 * m + n < 12) (λ b. omega arith) (λ b. omega arith) l h

pub chip-mod : (l a n : ℕ) → n < l → (a * l + n) % l ≡ n
chip-mod l a n k = mul-add-mod_self_right a l n ∙ mod-eq_of_lt k

-- a place among its group's is the place among l, whatever the group g
pub place-mod : (l : ℕ) → Length l → (g t : ℕ) → t < 4 → g * l % 4 ≤ t → t < g * l % 4 + l → t - g * l % 4 ≡ t % l
place-mod l h g t k =
    by_length (λ m. g * m % 4 ≤ t → t < g * m % 4 + m → t - g * m % 4 ≡ t % m) (λ x y. omega arith) (λ x y. omega arith) l h

-- ---- the number of the chip at place i of a unit, by the length
pub chip-four : (l : ℕ) → Length l → (i : ℕ) → i < 12 → l ≡ 4 → (i ≡ i / 4 * l + i % 4 % l) × (i < 12)
chip-four l ok i k e = rw e (omega arith, omega arith)

pub chip-two : (l : ℕ) → Length l → (i : ℕ) → i < 12 → (l ≡ 4 → ⊥) → (i / 4 * 2 + i % 2 ≡ i / 4 * l + i % 4 % l) × (i / 4 * 2 + i % 2 < 12)
chip-two l ok i k n = let e : l ≡ 2 = omega (arith, n) in rw e (omega arith, omega arith)
