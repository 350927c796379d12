-- Bits as numbers: bits after those that are held, 48 of them as six bytes, and the last bytes of a section. Assumes nothing.
use Rattle.std.specs.Prelude.{if◌then◌else◌}
use Prim.Native.Nat.{ℕ, zero, suc, ◌+◌, ◌-◌, ◌*◌, ◌/◌, ◌%◌, ◌^◌, ◌≤◌, ◌<◌}
use mathlib.Core.Path.{◌≡◌, refl, sym, ap, ap₂, ◌∙◌, subst}
use mathlib.Core.Bool.{Bool, true, false}
use mathlib.Core.List.{List}
use native.Mathlib.Nat.{add-zero, mod-lt}
use native.Mathlib.Omega.{arith}
use lib.Dec.{ltb}
use lib.ListN.{length, set, length-set}
use lib.Pow.{pow-add, pow_pos, shl-shr, high, low, mod-pow-add}
use borrow.Author.Tests.{lt-ltb, le-ltb}
use Rattle.base.proofs.Rows.{row_inside}
use Rattle.base.proofs.Tables.{set_more}
use Rattle.gold.specs.Sequence.{binary}
use Rattle.gold.proofs.Binary.{binary-same, binary-split, binary-lt}
use Rattle.gold.proofs.Window.{Holds, cut, exact}
use Rattle.codeword.proofs.Taking.{low_held}
use Rattle.section_bits.specs.Gathering.{with_four, with_two, Bytes, up_to, Bits}

-- ---- powers, and a shift that drops the highest bits
pub power-is : (n : ℕ) → n ≤ 48 → 281474976710656 / 2 ^ (48 - n) ≡ 2 ^ n
power-is n h =
    let e : 48 ≡ n + (48 - n) = omega arith in
    ap (λ (x : ℕ). x / 2 ^ (48 - n)) (ap (λ (x : ℕ). 2 ^ x) e ∙ pow-add 2 n (48 - n)) ∙ shl-shr (2 ^ n) (48 - n)

shift_is : (x n : ℕ) → n ≤ 64 → x * 2 ^ n % 2 ^ 64 ≡ x % 2 ^ (64 - n) * 2 ^ n
shift_is x n l =
    let e : 64 ≡ 64 - n + n = omega arith in
    ap (λ (k : ℕ). x * 2 ^ n % 2 ^ k) e
    ∙ mod-pow-add (x * 2 ^ n) (64 - n) n
    ∙ ap₂ (λ (u v : ℕ). u % 2 ^ (64 - n) * 2 ^ n + v) (shl-shr x n)
    (ap (λ (u : ℕ). u % 2 ^ n) (sym (add-zero (x * 2 ^ n))) ∙ low x n {lo = 0} (pow_pos n))
    ∙ add-zero (x % 2 ^ (64 - n) * 2 ^ n)

-- n bits after m others
pub joined-lt : (x v m n : ℕ) → x < 2 ^ m → v < 2 ^ n → x * 2 ^ n + v < 2 ^ (m + n)
joined-lt x v m n h l = rw (pow-add 2 m n) (omega (arith, row_inside x (2 ^ m) (2 ^ n) (suc v) h l))

pub shifted_fits : (x v n : ℕ) → n ≤ 64 → v < 2 ^ n → x * 2 ^ n % 2 ^ 64 + v < 2 ^ 64
shifted_fits x v n l h =
    let e : 64 - n + n ≡ 64 = omega arith in
    rw (shift_is x n l) (omega (arith, joined-lt (x % 2 ^ (64 - n)) v (64 - n) n (mod-lt x (pow_pos (64 - n))) h, ap (λ (k : ℕ). 2 ^ k) e))

pub zeros_of : (y : ℕ → ℕ) (k n : ℕ) → ((i : ℕ) → i < n → y (k + i) ≡ 0) → binary y k n ≡ 0
unfolding binary
zeros_of y k zero h = refl
zeros_of y k (suc n) h = rw (zeros_of y k n (λ i l. h i (omega arith)), h n (omega arith)) refl

module _ (b : ℕ → ℕ) (two : Bits b) where
  pub shifted_in : (k m n x v : ℕ) → m + n ≤ 64 → Holds b k m x → v ≡ binary b (k + m) n → Holds b k (m + n) (x * 2 ^ n % 2 ^ 64 + v)
  shifted_in k m n x v l h e =
      let less : v < 2 ^ n = rw e (binary-lt b two (k + m) n) in
      let y = x % 2 ^ (64 - n) in
      rw (shift_is x n (omega arith))
      (mod-pow-add (y * 2 ^ n + v) m n
      ∙ (λ t. (ap (λ (u : ℕ). u % 2 ^ m) (high y n less) ∙ low_held b two k m x (64 - n) (omega arith) h) t * 2 ^ n + (low y n less ∙ e) t)
      ∙ sym (binary-split b k m n))

  -- ---- 48 bits as six bytes
  byte-in : (k x : ℕ) → x ≡ binary b k 48 → (a c : ℕ) → a + 8 + c ≡ 48 → x / 2 ^ c % 256 ≡ binary b (k + a) 8
  byte-in k x e a c s = cut b two k 48 x (exact b two k 48 x e) a 8 c s

  -- the bytes below at + i are put
  module _ (x at : ℕ) (part : List ℕ) (l : at + 6 ≤ length part) (e : x ≡ binary b (8 * at) 48) where
    record Part (i : ℕ) (p : List ℕ) : Type 0 where
      pub size : length p ≡ length part
      pub bytes : Bytes b (at + i) p

    more : (i c : ℕ) {v : ℕ} {p : List ℕ} → 8 * i + 8 + c ≡ 48 → v ≡ x / 2 ^ c % 256 → Part i p → Part (i + 1) (set p (at + i) v)
    more i c {v} {p} f g h =
        let k : 8 * at + 8 * i ≡ 8 * (at + i) = omega arith in
        let d : v ≡ binary b (8 * (at + i)) 8 = g ∙ byte-in (8 * at) x e (8 * i) c f ∙ ap (λ (z : ℕ). binary b z 8) k in
        record {
          size = simp length-set h.size;
          bytes = λ m n.
              set_more 0 (λ (m : ℕ). binary b (8 * m) 8) p (at + i) v (omega (arith, h.size)) d h.bytes m (omega arith);
        }

    pub six-put : Bytes b at part → Bytes b (at + 6) (with_two (x % 65536) (at + 4) (with_four (x / 65536 % 4294967296) at part))
    six-put s =
        let z : at + 0 ≡ at = add-zero at in
        let v = x / 65536 % 4294967296 in
        let none : Part 0 part = record { size = refl; bytes = rw z s } in
        let first : Part 1 (set part at (v / 65536 / 256 % 256)) =
        subst (λ (i : ℕ). Part 1 (set part i (v / 65536 / 256 % 256))) z (more 0 40 {v = v / 65536 / 256 % 256} (omega arith) (omega arith) none) in
        let second = more 1 32 {v = v / 65536 % 256} (omega arith) (omega arith) first in
        let third = more 2 24 {v = v / 256 % 256} (omega arith) (omega arith) second in
        let fourth = more 3 16 {v = v % 256} (omega arith) (omega arith) third in
        let fifth = more 4 8 {v = x % 65536 / 256 % 256} (omega arith) (omega arith) fourth in
        let w : at + 2 + 1 ≡ at + 3 = omega arith in
        let u : at + 4 + 1 ≡ at + 5 = omega arith in
        rw (w, u) (more 5 0 {v = x % 65536 % 256} (omega arith) (omega arith) fifth).bytes

  -- ---- the last bytes: eight bits fewer before, eight zeros after
  pub first_byte : (k v : ℕ) → v ≡ binary b k 48 → v / 1099511627776 % 256 ≡ binary b k 8
  first_byte k v e = let z : k + 0 ≡ k = omega arith in byte-in k v e 0 40 (omega arith) ∙ ap (λ (i : ℕ). binary b i 8) z

  pub next-shifted : (k v : ℕ) → v ≡ binary b k 48 → ((i : ℕ) → k + 48 ≤ i → b i ≡ 0) → v % 1099511627776 * 256 ≡ binary b (k + 8) 48
  next-shifted k v e zeros =
      let m : binary b k 48 ≡ binary b k 8 * 1099511627776 + binary b (k + 8) 40 = binary-split b k 8 40 in
      let l : binary b (k + 8) 40 < 1099511627776 = binary-lt b two (k + 8) 40 in
      let n : binary b (k + 8) 48 ≡ binary b (k + 8) 40 * 256 + binary b (k + 8 + 40) 8 = binary-split b (k + 8) 40 8 in
      let z : binary b (k + 8 + 40) 8 ≡ 0 = zeros_of b (k + 8 + 40) 8 (λ i h. zeros (k + 8 + 40 + i) (omega arith)) in
      omega arith

  -- ---- the bits of a section of n bits
  module _ (n : ℕ) where
    pub cut-two : Bits (up_to b n)
    cut-two i = pick (ltb i n)
      where
        pick : (t : Bool) → (if t then b i else 0) < 2
        pick true = two i
        pick false = omega arith

    inside : (i : ℕ) → i < n → b i ≡ up_to b n i
    inside i l = rw (lt-ltb i n l) refl

    pub outside : (i : ℕ) → n ≤ i → up_to b n i ≡ 0
    outside i l = rw (le-ltb i n l) refl

    pub whole-bytes : (at : ℕ) (part : List ℕ) → 8 * at ≤ n → Bytes b at part → Bytes (up_to b n) at part
    whole-bytes at part l s m h = s m h ∙ binary-same b (up_to b n) (8 * m) (8 * m) 8 (λ i k. inside (8 * m + i) (omega arith))

    -- the last bits, filled with zeros to 48
    pub last_word : (k m : ℕ) → m ≤ 48 → n ≡ k + m → binary b k m * 2 ^ (48 - m) ≡ binary (up_to b n) k 48
    last_word k m l e =
        let s : m + (48 - m) ≡ 48 = omega arith in
        sym (add-zero (binary b k m * 2 ^ (48 - m)))
        ∙ ap₂ (λ (y z : ℕ). y * 2 ^ (48 - m) + z)
        (binary-same b (up_to b n) k k m (λ i h. inside (k + i) (omega arith)))
        (sym (zeros_of (up_to b n) (k + m) (48 - m) (λ i h. outside (k + m + i) (omega arith))))
        ∙ sym (binary-split (up_to b n) k m (48 - m))
        ∙ ap (binary (up_to b n) k) s
