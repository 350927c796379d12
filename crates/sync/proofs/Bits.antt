-- A number from its bits; words of 31 bits, shifted round and added mod 2. Assumes nothing.
use Prim.Native.Nat.{ℕ, zero, suc, ◌+◌, ◌*◌, ◌/◌, ◌%◌, ◌^◌, ◌≤◌, ◌<◌}
use mathlib.Core.Path.{◌≡◌, sym, ap, ap₂, ◌∙◌}
use native.Mathlib.Decide.{dec_lt, ℕ_discrete}
use native.Mathlib.Nat.{mod-lt, pow-suc}
use native.Mathlib.Omega.{arith}
use lib.Arith.{digits_lt}
use lib.Bits.{bit_xor, xor_lt}
use lib.Pow.{pow_pos, split, high, low, shr_lt}
use Rattle.base.specs.Digits.{dig, dig-xor, dig-shr, dig-mod}
use Rattle.sync.specs.Inner.{Holds, low_first, around_of}

-- ---- a word from its bits, the lowest first
low-first-lt : (f : ℕ → ℕ) → ((i : ℕ) → f i < 2) → (n : ℕ) → low_first f n < 2 ^ n
unfolding low_first
low-first-lt f two zero = omega arith
low-first-lt f two (suc n) = omega (arith, digits_lt {c = 2 ^ n} (two n) (low-first-lt f two n), pow-suc 2 n)

top_bit : (b k : ℕ) {r : ℕ} → b < 2 → r < 2 ^ k → dig (b * 2 ^ k + r) k ≡ b
unfolding dig
top_bit b k two h = ap (λ (z : ℕ). z % 2) (high b k h) ∙ omega arith

top-is : (n w : ℕ) → w < 2 ^ suc n → w / 2 ^ n ≡ dig w n
unfolding dig
top-is n w h = let g : suc n ≡ 1 + n = omega arith in omega (arith, shr_lt {n = w} 1 n (rw g at h))

pub low-first-bit : (f : ℕ → ℕ) → ((i : ℕ) → f i < 2) → (n i : ℕ) → i < n → dig (low_first f n) i ≡ f i
unfolding low_first
low-first-bit f two zero i h = absurd (omega arith)
low-first-bit f two (suc n) i h = pick (ℕ_discrete i n) (low-first-bit f two n i)
  where
    pick : Dec (i ≡ n) → (i < n → dig (low_first f n) i ≡ f i) → dig (f n * 2 ^ n + low_first f n) i ≡ f i
    pick (yes e) earlier = rw e (top_bit (f n) n (two n) (low-first-lt f two n))
    pick (no e) earlier =
        sym (dig-mod (f n * 2 ^ n + low_first f n) n i (omega arith))
        ∙ ap (λ (z : ℕ). dig z i) (low (f n) n (low-first-lt f two n))
        ∙ earlier (omega arith)

low-first-of : (f : ℕ → ℕ) (n w : ℕ) → w < 2 ^ n → ((i : ℕ) → i < n → dig w i ≡ f i) → w ≡ low_first f n
unfolding low_first
low-first-of f zero w h e = omega arith
low-first-of f (suc n) w h e =
    sym (split w n)
    ∙ ap₂ (λ (x y : ℕ). x * 2 ^ n + y)
    (top-is n w h ∙ e n (omega arith))
    (low-first-of f n (w % 2 ^ n) (mod-lt w (pow_pos n)) (λ i less. dig-mod w n i less ∙ e i (omega arith)))

pub low-first-is : {x : ℕ → ℕ} {w : ℕ} → Holds x w → w ≡ low_first x 31
low-first-is {x} {w} h = low-first-of x 31 w h.small h.bit

-- ---- what a word holds
pub holds_same : {x y : ℕ → ℕ} {w : ℕ} → ((i : ℕ) → x i ≡ y i) → Holds x w → Holds y w
holds_same e h = record { small = h.small; bit = λ i less. h.bit i less ∙ e i }

pub holds-xor : {x y : ℕ → ℕ} {v w : ℕ} → Holds x v → Holds y w → Holds (λ (i : ℕ). (x i + y i) % 2) (bit_xor v w)
holds-xor {v = v} {w = w} h k =
    record {
      small = xor_lt 31 v w h.small k.small;
      bit = λ i less. dig-xor v w i ∙ ap₂ (λ (a b : ℕ). (a + b) % 2) (h.bit i less) (k.bit i less);
    }

twice-bit : (x : ℕ → ℕ) (w j : ℕ) → Holds x w → j < 62 → dig (w * (2 ^ 31 + 1)) j ≡ x (j % 31)
twice-bit x w j h less = pick (dec_lt j 31)
  where
    lower : w * (2 ^ 31 + 1) % 2 ^ 31 ≡ w
    lower = omega (arith, h.small)

    upper : w * (2 ^ 31 + 1) / 2 ^ 31 ≡ w
    upper = omega (arith, h.small)

    pick : Dec (j < 31) → dig (w * (2 ^ 31 + 1)) j ≡ x (j % 31)
    pick (yes l) =
        let e : j ≡ j % 31 = omega arith in
        sym (dig-mod (w * (2 ^ 31 + 1)) 31 j l) ∙ ap (λ (z : ℕ). dig z j) lower ∙ h.bit j l ∙ ap x e
    pick (no l) =
        let e : j ≡ 31 + j % 31 = omega arith in
        ap (dig (w * (2 ^ 31 + 1))) e ∙ sym (dig-shr (w * (2 ^ 31 + 1)) 31 (j % 31)) ∙ ap (λ (z : ℕ). dig z (j % 31)) upper ∙ h.bit (j % 31) (omega arith)

pub holds-around : {x : ℕ → ℕ} {w : ℕ} (k : ℕ) → k ≤ 31 → Holds x w → Holds (λ (n : ℕ). x ((n + k) % 31)) (around_of w k)
unfolding around_of
holds-around {x} {w} k le h = record { small = omega arith; bit = each }
  where
    each : (n : ℕ) → n < 31 → dig (w * (2 ^ 31 + 1) / 2 ^ k % 2 ^ 31) n ≡ x ((n + k) % 31)
    each n less =
        let e : (k + n) % 31 ≡ (n + k) % 31 = omega arith in
        dig-mod (w * (2 ^ 31 + 1) / 2 ^ k) 31 n less ∙ dig-shr (w * (2 ^ 31 + 1)) k n ∙ twice-bit x w (k + n) h (omega arith) ∙ ap x e
