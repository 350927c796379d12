-- The bits of symbols by an order's table: how many a word has, and the words of two symbols and of four. Assumes nothing.
use Prim.Native.Nat.{ℕ, zero, suc, ◌+◌, ◌*◌, ◌/◌, ◌%◌, ◌^◌, ◌≤◌, ◌<◌}
use mathlib.Core.Path.{◌≡◌, refl, sym, ap, ap₂, ◌∙◌}
use mathlib.Core.List.{List, [], ◌∷◌}
use native.Mathlib.Nat.{pow-succ', mul-add, mul_comm, mul-one, one-mul, zero-mul}
use native.Mathlib.Omega.{arith}
use lib.ListN.{length, get_or}
use lib.Pow.{pow-add, pow_mono, shl_exact}
use Rattle.base.specs.Bytes.{signed_of}
use Rattle.gold.specs.Sequence.{binary}
use Rattle.gold.proofs.Binary.{binary-split}
use Rattle.modulation.specs.Demapping.{level_bits, number}
use Rattle.modulation.proofs.Levels.{Bits, bits-length, bits-bits}
use Rattle.constellation.specs.Axis.{axis_of, byte_from, word_of}
use Rattle.element_pairs.specs.Numbers.{upper}
use Rattle.section_bits.proofs.Packing.{joined-lt}
use Rattle.data_read.specs.Runs.{Table, both_of}

-- ---- how many bits
four-power : (n : ℕ) → 4 ^ n ≡ 2 ^ (2 * n)
four-power zero = refl
four-power (suc n) =
    let e : 2 + 2 * n ≡ 2 * suc n = omega arith in
    pow-succ' 4 n ∙ ap (λ (x : ℕ). 4 * x) (four-power n) ∙ sym (pow-add 2 2 (2 * n)) ∙ ap (λ (x : ℕ). 2 ^ x) e

-- bits at every second place are a third of all
thirds : (bs : List ℕ) → Bits bs → 3 * number 4 bs < 4 ^ length bs
unfolding number Bits
thirds [] ok = omega arith
thirds (zero ∷ bs) ok = omega (arith, thirds bs ok.1, pow-succ' 4 (length bs), zero-mul (4 ^ length bs))
thirds (suc zero ∷ bs) ok = omega (arith, thirds bs ok.1, pow-succ' 4 (length bs), one-mul (4 ^ length bs))
thirds (suc (suc b) ∷ bs) ok = absurd (omega (arith, ok.0))

module _ {q : ℕ} {d : List ℕ} (t : Table q d) where
  entry-few : (x : ℕ) → x < 32 → 3 * get_or d x 0 < 2 ^ q
  unfolding axis_of
  entry-few x l =
      let bs = level_bits (q / 2) (signed_of (byte_from x)) in
      let e : 2 * (q / 2) ≡ q = omega (arith, t.order.0) in
      let p : 4 ^ length bs ≡ 2 ^ q = ap (λ (n : ℕ). 4 ^ n) (bits-length (q / 2) (signed_of (byte_from x))) ∙ four-power (q / 2) ∙ ap (λ (n : ℕ). 2 ^ n) e in
      omega (arith, p, thirds bs (bits-bits (q / 2) (signed_of (byte_from x))), t.axis.entry x l)

  pub word-few : (v : ℕ) → word_of d v < 2 ^ q
  word-few v = omega (arith, entry-few (v / 256 % 32) (omega arith), entry-few (v / 65536 % 32) (omega arith))

-- two numbers of n bits one after the other, as the code joins them
pub joined :
    {n m u v x y : ℕ} → n ≤ 16 → m ≡ 2 * n → x ≡ u → y ≡ v → u < 2 ^ n → v < 2 ^ n
    → (x * 2 ^ n % 2 ^ 64 + y ≡ u * 2 ^ n + v) × (x * 2 ^ n % 2 ^ 64 + y < 2 ^ m) × (x * 2 ^ n % 2 ^ 64 + y < 2 ^ 64)
joined {n} {m} {u} {v} few em ex ey lu lv =
    let e : n + n ≡ 2 * n = omega arith in
    let s = ap (λ (z : ℕ). z * 2 ^ n % 2 ^ 64) ex ∙ shl_exact n n 64 lu (omega arith) in
    let l = joined-lt u v n n lu lv in
    let p : 2 ^ (n + n) ≤ 2 ^ 32 = pow_mono {j = 32} (omega arith) in
    (omega (arith, s), omega (arith, s, l, ap (λ (k : ℕ). 2 ^ k) e, ap (λ (k : ℕ). 2 ^ k) em), omega (arith, s, l, p))

-- ---- bits that they are
module _ (b : ℕ → ℕ) (q k : ℕ) where
  pub both_bits :
      (d : List ℕ) (v : ℕ) → word_of d v ≡ binary b (q * k) q → word_of d (upper v) ≡ binary b (q * (k + 1)) q → both_of q d v ≡ binary b (q * k) (2 * q)
  both_bits d v e f =
      let n : q + q ≡ 2 * q = omega arith in
      let m : q * (k + 1) ≡ q * k + q = mul-add q k 1 ∙ ap (λ (x : ℕ). q * k + x) (mul-one q) in
      ap₂ (λ (x y : ℕ). x * 2 ^ q + y) e (f ∙ ap (λ (i : ℕ). binary b i q) m) ∙ sym (binary-split b (q * k) q q) ∙ ap (binary b (q * k)) n

  pub four-bits :
      {x y : ℕ} → x ≡ binary b (q * k) (2 * q) → y ≡ binary b (q * (k + 2)) (2 * q) → x * 2 ^ (2 * q) + y ≡ binary b (q * k) (4 * q)
  four-bits e f =
      let n : 2 * q + 2 * q ≡ 4 * q = omega arith in
      let m : q * (k + 2) ≡ q * k + 2 * q = mul-add q k 2 ∙ ap (λ (x : ℕ). q * k + x) (mul_comm q 2) in
      ap₂ (λ (x y : ℕ). x * 2 ^ (2 * q) + y) e (f ∙ ap (λ (i : ℕ). binary b i (2 * q)) m)
      ∙ sym (binary-split b (q * k) (2 * q) (2 * q)) ∙ ap (binary b (q * k)) n
