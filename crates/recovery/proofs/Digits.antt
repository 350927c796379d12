-- Lists of bytes that agree in every bit are equal. Assumes nothing.
use Prim.Native.Nat.{ℕ, zero, suc, ◌+◌, ◌-◌, ◌*◌, ◌/◌, ◌%◌, ◌^◌, ◌<◌}
use mathlib.Core.Path.{◌≡◌, sym, ap, ap₂, ◌∙◌}
use mathlib.Core.List.{List}
use native.Mathlib.Nat.{pow-suc}
use native.Mathlib.Omega.{arith}
use lib.ListN.{length, get_or}
use lib.Seq.{ext_get_or}
use Rattle.base.specs.Bits.{bit_at}
use Rattle.base.specs.Digits.{dig, dig-shr}
use Rattle.plan.specs.Lists.{Every}
use Rattle.plan.proofs.Listed.{every-at}

-- numbers of n binary digits
pub digits_same : (n x y : ℕ) → x < 2 ^ n → y < 2 ^ n → ((i : ℕ) → i < n → dig x i ≡ dig y i) → x ≡ y
unfolding dig
digits_same zero x y hx hy same = omega arith
digits_same (suc n) x y hx hy same =
    let e : 2 ^ suc n ≡ 2 ^ n * 2 = pow-suc 2 n in
    let one : (i : ℕ) → 1 + i ≡ suc i = λ i. omega arith in
    let last : x / 1 % 2 ≡ y / 1 % 2 = same 0 (omega arith) in
    let half : x / 2 ≡ y / 2 =
    digits_same n (x / 2) (y / 2) (omega arith) (omega arith)
    (λ i l. dig-shr x 1 i ∙ ap (dig x) (one i) ∙ same (suc i) (omega arith) ∙ ap (dig y) (sym (one i)) ∙ sym (dig-shr y 1 i)) in
    omega arith

-- the bit of a byte that has the weight 2 ^ k
bit-at : (s : List ℕ) (m k : ℕ) → k < 8 → dig (get_or s m 0) k ≡ bit_at s (8 * m + (7 - k))
unfolding bit_at dig
bit-at s m k h =
    let i : m ≡ (8 * m + (7 - k)) / 8 = omega arith in
    let j : k ≡ 7 - (8 * m + (7 - k)) % 8 = omega arith in
    ap₂ (λ (x y : ℕ). get_or s x 0 / 2 ^ y % 2) i j

-- THE LAW
pub bytes_same :
    (s t : List ℕ) → length s ≡ length t → Every (λ (x : ℕ). x < 256) s → Every (λ (x : ℕ). x < 256) t
    → ((b : ℕ) → b < 8 * length s → bit_at s b ≡ bit_at t b) → s ≡ t
bytes_same s t e hs ht same =
    ext_get_or 0 s t e
    (λ m l.
    digits_same 8 (get_or s m 0) (get_or t m 0) (every-at (λ (x : ℕ). x < 256) 0 s m hs l) (every-at (λ (x : ℕ). x < 256) 0 t m ht (omega arith))
    (λ k r. bit-at s m k r ∙ same (8 * m + (7 - k)) (omega arith) ∙ sym (bit-at t m k r)))
