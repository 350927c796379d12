-- A section that is written bit by bit: after n bits its first bytes are those of a section of n bits. Assumes nothing but that the bits
-- are 0 or 1.
use Rattle.std.specs.Prelude.{if◌then◌else◌}
use Prim.Native.Nat.{ℕ, zero, suc, ◌+◌, ◌-◌, ◌*◌, ◌/◌, ◌%◌, ◌^◌, ◌≤◌, ◌<◌}
use mathlib.Core.Path.{◌≡◌, refl, sym, ap, ap₂, ◌∙◌}
use mathlib.Core.Bool.{Bool, true, false}
use mathlib.Core.List.{List}
use native.Mathlib.Decide.{ℕ_discrete}
use native.Mathlib.Nat.{add-mul}
use native.Mathlib.Omega.{arith}
use borrow.Author.Tests.{eq-eqb, ne_eqb, lt-ltb, le-ltb}
use lib.Dec.{ltb}
use lib.ListN.{length, get_or, set, length-set}
use lib.Seq.{get_or-set_same, get_or-set_other}
use Rattle.base.proofs.Tables.{filled}
use Rattle.gold.specs.Sequence.{binary}
use Rattle.gold.proofs.Binary.{binary-more, binary-same, binary-split, binary-lt}
use Rattle.payload.specs.Sections.{section_bytes}
use Rattle.recovery.specs.Recovery.{section_of}
use Rattle.control_read.specs.Reading.{held_at, pushed, PushIn}

-- the first n bits, and 0 beyond them
abbrev first_bits : (ℕ → ℕ) → ℕ → ℕ → ℕ
first_bits f n i = if ltb i n then f i else 0

-- n bits are written
pub record Packed (f : ℕ → ℕ) (n : ℕ) (part : List ℕ) : Type 0 where
  pub bytes : (m : ℕ) → m < section_bytes n → get_or part m 0 ≡ binary (first_bits f n) (8 * m) 8

weight-at : (k : ℕ) → k < 8 → 128 / 2 ^ k ≡ 2 ^ (7 - k)
weight-at zero h = refl
weight-at (suc zero) h = refl
weight-at (suc (suc zero)) h = refl
weight-at (suc (suc (suc zero))) h = refl
weight-at (suc (suc (suc (suc zero)))) h = refl
weight-at (suc (suc (suc (suc (suc zero))))) h = refl
weight-at (suc (suc (suc (suc (suc (suc zero)))))) h = refl
weight-at (suc (suc (suc (suc (suc (suc (suc zero))))))) h = refl
weight-at (suc (suc (suc (suc (suc (suc (suc (suc k)))))))) h = absurd (omega arith)

module _ (f : ℕ → ℕ) (n : ℕ) where
  bit_in : (i : ℕ) → i < n → first_bits f n i ≡ f i
  bit_in i h = rw (lt-ltb i n h) refl

  bit-out : (i : ℕ) → n ≤ i → first_bits f n i ≡ 0
  bit-out i h = rw (le-ltb i n h) refl

  bit-two : ((i : ℕ) → f i < 2) → (i : ℕ) → first_bits f n i < 2
  bit-two two i = pick (ltb i n)
    where
      pick : (t : Bool) → (if t then f i else 0) < 2
      pick true = two i
      pick false = omega arith

  bit_kept : (i : ℕ) → (i ≡ n → ⊥) → first_bits f (n + 1) i ≡ first_bits f n i
  bit_kept i h = pick (ℕ_discrete (n - i) 0)
    where
      pick : Dec (n - i ≡ 0) → first_bits f (n + 1) i ≡ first_bits f n i
      pick (yes e) = rw (le-ltb i (n + 1) (omega arith), le-ltb i n (omega arith)) refl
      pick (no e) = rw (lt-ltb i (n + 1) (omega arith), lt-ltb i n (omega arith)) refl

module _ (f : ℕ → ℕ) (n : ℕ) where
  -- a byte with bit n and without it: r bits before, t bits after
  byte_more : (k r t : ℕ) → k + r ≡ n → binary (first_bits f (n + 1)) k (r + 1 + t) ≡ binary (first_bits f n) k (r + 1 + t) + f n * 2 ^ t
  byte_more k r t e =
      let x : ℕ → ℕ = first_bits f n in
      let y : ℕ → ℕ = first_bits f (n + 1) in
      let before : binary y k r ≡ binary x k r = binary-same y x k k r (λ i l. bit_kept f n (k + i) (λ q. omega arith)) in
      let past : binary y (k + (r + 1)) t ≡ binary x (k + (r + 1)) t = binary-same y x (k + (r + 1)) (k + (r + 1)) t (λ i l. bit_kept f n (k + (r + 1) + i) (λ q. omega arith)) in
      let new : y (k + r) ≡ f n = bit_in f (n + 1) (k + r) (omega arith) ∙ ap f e in
      let old : x (k + r) ≡ 0 = bit-out f n (k + r) (omega arith) in
      let half : binary y k (r + 1) ≡ binary x k (r + 1) + f n = omega (arith, binary-more y k r, binary-more x k r, before, new, old) in
      let a : ℕ = binary x k (r + 1) in
      omega (
        arith,
        binary-split y k (r + 1) t,
        binary-split x k (r + 1) t,
        ap (λ (z : ℕ). z * 2 ^ t) half ∙ add-mul a (f n) (2 ^ t),
        past,
      )

  byte-new : binary (first_bits f (n + 1)) (8 * (n / 8)) 8 ≡ binary (first_bits f n) (8 * (n / 8)) 8 + f n * (128 / 2 ^ (n % 8))
  byte-new =
      let e : n % 8 + 1 + (7 - n % 8) ≡ 8 = omega arith in
      rw (weight-at (n % 8) (omega arith)) (rw e at (byte_more (8 * (n / 8)) (n % 8) (7 - n % 8) (omega arith)))

  -- the other bytes
  byte-kept : (m : ℕ) → (m ≡ n / 8 → ⊥) → binary (first_bits f (n + 1)) (8 * m) 8 ≡ binary (first_bits f n) (8 * m) 8
  byte-kept m h = binary-same (first_bits f (n + 1)) (first_bits f n) (8 * m) (8 * m) 8 (λ i l. bit_kept f n (8 * m + i) (λ q. h (omega arith)))

  -- a byte that has no bit yet
  byte-none : (k s : ℕ) → n ≤ k → binary (first_bits f n) k s ≡ 0
  unfolding binary
  byte-none k zero h = refl
  byte-none k (suc s) h = omega (arith, byte-none k s h, bit-out f n (k + s) (omega arith))

  module _ {part : List ℕ} (p : Packed f n part) where
    held-is : held_at part n ≡ binary (first_bits f n) (8 * (n / 8)) 8
    held-is = pick (ℕ_discrete (n % 8) 0)
      where
        pick : Dec (n % 8 ≡ 0) → held_at part n ≡ binary (first_bits f n) (8 * (n / 8)) 8
        pick (yes e) = rw (eq-eqb (n % 8) 0 e) (sym (byte-none (8 * (n / 8)) 8 (omega arith)))
        pick (no e) = rw (ne_eqb (n % 8) 0 e) (p.bytes (n / 8) (omega arith))

    byte-is : (b : ℕ) → b ≡ f n → held_at part n + b * (128 / 2 ^ (n % 8)) ≡ binary (first_bits f (n + 1)) (8 * (n / 8)) 8
    byte-is b e = ap₂ (λ (x y : ℕ). x + y * (128 / 2 ^ (n % 8))) held-is e ∙ sym byte-new

    pub push_ok : ((i : ℕ) → f i < 2) → (b : ℕ) → b ≡ f n → n / 8 < length part → PushIn part n b
    push_ok two b e l =
        record {
          inside = l;
          fits = let h : binary (first_bits f (n + 1)) (8 * (n / 8)) 8 < 256 = binary-lt (first_bits f (n + 1)) (bit-two f (n + 1) two) (8 * (n / 8)) 8 in omega (arith, byte-is b e);
        }

    pub push-more : (b : ℕ) → b ≡ f n → n / 8 < length part → {new : List ℕ} → new ≡ pushed part n b → Packed f (n + 1) new
    unfolding pushed
    push-more b e l q = rw q (record { bytes = λ m h. pick m h (ℕ_discrete m (n / 8)) })
      where
        v : ℕ
        v = held_at part n + b * (128 / 2 ^ (n % 8))

        pick : (m : ℕ) → m < section_bytes (n + 1) → Dec (m ≡ n / 8) → get_or (set part (n / 8) v) m 0 ≡ binary (first_bits f (n + 1)) (8 * m) 8
        pick m h (yes s) = rw s (get_or-set_same part (n / 8) v 0 l ∙ byte-is b e)
        pick m h (no s) = get_or-set_other part (n / 8) m v 0 s ∙ p.bytes m (omega arith) ∙ sym (byte-kept m s)

pub pushed-length : (part : List ℕ) (n b : ℕ) → length (pushed part n b) ≡ length part
unfolding pushed
pushed-length part n b = length-set part (n / 8) (held_at part n + b * (128 / 2 ^ (n % 8)))

pub packed_none : (f : ℕ → ℕ) (part : List ℕ) → Packed f 0 part
packed_none f part = record { bytes = λ m h. absurd (omega arith) }

-- all of them
pub packed_all : (f : ℕ → ℕ) (n : ℕ) (part : List ℕ) → length part ≡ section_bytes n → Packed f n part → part ≡ section_of f n
unfolding section_of
packed_all f n part l p = filled 0 (λ (m : ℕ). binary (first_bits f n) (8 * m) 8) (section_bytes n) part l p.bytes

-- ---- what `push` writes, by whether the bit is its byte's first
pub first_bit : (part : List ℕ) (n b : ℕ) → n % 8 ≡ 0 → set part (n / 8) (b * (128 / 2 ^ (n % 8))) ≡ pushed part n b
unfolding pushed
first_bit part n b e =
    let z : b * (128 / 2 ^ (n % 8)) ≡ 0 + b * (128 / 2 ^ (n % 8)) = omega arith in
    rw (eq-eqb (n % 8) 0 e) (ap (set part (n / 8)) z)

pub later-bit : (part : List ℕ) (n b : ℕ) → (n % 8 ≡ 0 → ⊥) → set part (n / 8) (get_or part (n / 8) 0 + b * (128 / 2 ^ (n % 8))) ≡ pushed part n b
unfolding pushed
later-bit part n b e = rw (ne_eqb (n % 8) 0 e) refl

pub held-zero : (part : List ℕ) (n : ℕ) → n % 8 ≡ 0 → held_at part n ≡ 0
held-zero part n e = rw (eq-eqb (n % 8) 0 e) refl

pub held-some : (part : List ℕ) (n : ℕ) → (n % 8 ≡ 0 → ⊥) → held_at part n ≡ get_or part (n / 8) 0
held-some part n e = rw (ne_eqb (n % 8) 0 e) refl
