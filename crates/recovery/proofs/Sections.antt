-- Sections that are made from their bits: how many bytes they have, each bit of them, and that the spare bits are zero. Assumes nothing
-- but that the bits are 0 or 1.
use Rattle.std.specs.Prelude.{if◌then◌else◌}
use Prim.Native.Nat.{ℕ, zero, suc, ◌+◌, ◌-◌, ◌*◌, ◌/◌, ◌%◌, ◌^◌, ◌≤◌, ◌<◌}
use mathlib.Core.Path.{◌≡◌, refl, sym, ap, ap₂, ◌∙◌}
use mathlib.Core.Bool.{Bool, true, false}
use mathlib.Core.List.{List, [], ◌∷◌, ◌++◌}
use native.Mathlib.Nat.{not-suc-le-zero, le_of_suc-le-suc}
use native.Mathlib.Omega.{arith}
use borrow.Author.Tests.{lt-ltb, le-ltb}
use lib.Dec.{ltb}
use lib.ListN.{length, get_or, take, drop, length-append, get_or-append}
use lib.Seq.{get_or-append-add, drop-append-add, take_at}
use Rattle.base.specs.Bits.{bit_at}
use Rattle.base.specs.Digits.{dig}
use Rattle.base.proofs.Tables.{table_at, table-length}
use Rattle.gold.specs.Sequence.{binary}
use Rattle.gold.proofs.Binary.{binary-lt, binary-digit}
use Rattle.plan.specs.Lists.{Every}
use Rattle.payload.specs.Sections.{section_bytes, bytes_of, start_of, span, spare_at, spares_from}
use Rattle.payload.proofs.Sections.{span-length, span-at}
use Rattle.subframe.proofs.OwnerBits.{at_every}
use Rattle.recovery.specs.Recovery.{section_of, sections_of}

every_append : {A : Type 0} (P : A → Type 0) (xs ys : List A) → Every P xs → Every P ys → Every P (xs ++ ys)
every_append P [] ys h k = k
every_append P (x ∷ xs) ys h k = (h.0, every_append P xs ys h.1 k)

-- ---- the bits of a list of bytes that goes on
module _ (s t : List ℕ) where
  bit-left : (i : ℕ) → i < 8 * length s → bit_at (s ++ t) i ≡ bit_at s i
  unfolding bit_at
  bit-left i l = ap (λ (x : ℕ). x / 2 ^ (7 - i % 8) % 2) (get_or-append s t 0 (i / 8) (omega arith))

  bit-right : (i : ℕ) → bit_at (s ++ t) (8 * length s + i) ≡ bit_at t i
  unfolding bit_at
  bit-right i =
      let d : (8 * length s + i) / 8 ≡ length s + i / 8 = omega arith in
      let r : (8 * length s + i) % 8 ≡ i % 8 = omega arith in
      ap₂ (λ (x y : ℕ). get_or (s ++ t) x 0 / 2 ^ (7 - y) % 2) d r
      ∙ ap (λ (x : ℕ). x / 2 ^ (7 - i % 8) % 2) (get_or-append-add s t (i / 8) 0)

-- ---- one section of n bits
module _ (bit : ℕ → ℕ) (n : ℕ) where
  -- its bits, and 0 beyond them
  abbrev padded : ℕ → ℕ
  padded i = if ltb i n then bit i else 0

  padded-in : (i : ℕ) → i < n → padded i ≡ bit i
  padded-in i h = rw (lt-ltb i n h) refl

  padded-out : (i : ℕ) → n ≤ i → padded i ≡ 0
  padded-out i h = rw (le-ltb i n h) refl

  section-length : length (section_of bit n) ≡ section_bytes n
  unfolding section_of
  section-length = table-length (section_bytes n) (λ (m : ℕ). binary padded (8 * m) 8)

  module _ (two : (i : ℕ) → bit i < 2) where
    padded-two : (i : ℕ) → padded i < 2
    padded-two i = pick (ltb i n)
      where
        pick : (t : Bool) → (if t then bit i else 0) < 2
        pick true = two i
        pick false = omega arith

    section-bit : (i : ℕ) → i < 8 * section_bytes n → bit_at (section_of bit n) i ≡ padded i
    unfolding section_of bit_at dig
    section-bit i l =
        let e : 8 * (i / 8) + i % 8 ≡ i = omega arith in
        ap (λ (x : ℕ). x / 2 ^ (7 - i % 8) % 2) (table_at (section_bytes n) (λ (m : ℕ). binary padded (8 * m) 8) 0 (i / 8) (omega arith))
        ∙ binary-digit padded padded-two (8 * (i / 8)) 8 (i % 8) (7 - i % 8) (omega arith)
        ∙ ap padded e

    section-bytes : Every (λ (x : ℕ). x < 256) (section_of bit n)
    unfolding section_of
    section-bytes =
        at_every (λ (x : ℕ). x < 256) 0 (section_of bit n)
        (λ i l.
        let h : binary padded (8 * i) 8 < 2 ^ 8 = binary-lt padded padded-two (8 * i) 8 in
        let k : i < section_bytes n = omega (arith, section-length) in
        rw (table_at (section_bytes n) (λ (m : ℕ). binary padded (8 * m) 8) 0 i k) (omega arith))

-- ---- sections that follow each other
pub sections-length : (bits : ℕ → ℕ → ℕ) (ns : List ℕ) → length (sections_of bits ns) ≡ bytes_of ns
unfolding sections_of bytes_of
sections-length bits [] = refl
sections-length bits (n ∷ ns) =
    length-append (section_of (bits 0) n) (sections_of (λ (k : ℕ). bits (suc k)) ns)
    ∙ ap₂ (λ (x y : ℕ). x + y) (section-length (bits 0) n) (sections-length (λ (k : ℕ). bits (suc k)) ns)

pub sections-bytes : (bits : ℕ → ℕ → ℕ) (ns : List ℕ) → ((k i : ℕ) → bits k i < 2) → Every (λ (x : ℕ). x < 256) (sections_of bits ns)
unfolding sections_of
sections-bytes bits [] two = tt
sections-bytes bits (n ∷ ns) two =
    every_append (λ (x : ℕ). x < 256) (section_of (bits 0) n) (sections_of (λ (k : ℕ). bits (suc k)) ns) (section-bytes (bits 0) n (two 0))
    (sections-bytes (λ (k : ℕ). bits (suc k)) ns (λ k. two (suc k)))

-- THE LAW OF A SECTION'S BYTES
past : (xs ys : List ℕ) (m n : ℕ) → length xs ≡ m → drop (m + n) (xs ++ ys) ≡ drop n ys
past xs ys m n e = ap (λ (k : ℕ). drop (k + n) (xs ++ ys)) (sym e) ∙ drop-append-add xs ys n

pub sections-part :
    (bits : ℕ → ℕ → ℕ) (ns : List ℕ) (k : ℕ) → k < length ns
    → take (section_bytes (get_or ns k 0)) (drop (start_of ns k) (sections_of bits ns)) ≡ section_of (bits k) (get_or ns k 0)
unfolding sections_of start_of bytes_of
sections-part bits [] k l = absurd (not-suc-le-zero l)
sections-part bits (n ∷ ns) zero l = take_at (section_of (bits 0) n) (sections_of (λ (m : ℕ). bits (suc m)) ns) (section_bytes n) (section-length (bits 0) n)
sections-part bits (n ∷ ns) (suc k) l =
    ap (take (section_bytes (get_or ns k 0))) (past (section_of (bits 0) n) (sections_of (λ (m : ℕ). bits (suc m)) ns) (section_bytes n) (start_of ns k) (section-length (bits 0) n))
    ∙ sections-part (λ (m : ℕ). bits (suc m)) ns k (le_of_suc-le-suc l)

-- the first section's bits, and those of the others
module _ (bits : ℕ → ℕ → ℕ) (n : ℕ) (ns : List ℕ) (two : (k i : ℕ) → bits k i < 2) where
  first_bit : (i : ℕ) → i < 8 * section_bytes n → bit_at (sections_of bits (n ∷ ns)) i ≡ padded (bits 0) n i
  unfolding sections_of
  first_bit i l =
      bit-left (section_of (bits 0) n) (sections_of (λ (k : ℕ). bits (suc k)) ns) i (omega (arith, section-length (bits 0) n))
      ∙ section-bit (bits 0) n (two 0) i l

  later-bit : (i : ℕ) → bit_at (sections_of bits (n ∷ ns)) (8 * section_bytes n + i) ≡ bit_at (sections_of (λ (k : ℕ). bits (suc k)) ns) i
  unfolding sections_of
  later-bit i =
      ap (λ (x : ℕ). bit_at (sections_of bits (n ∷ ns)) (8 * x + i)) (sym (section-length (bits 0) n))
      ∙ bit-right (section_of (bits 0) n) (sections_of (λ (k : ℕ). bits (suc k)) ns) i

-- THE LAW OF A SECTION'S BITS
pub sections-bit :
    (bits : ℕ → ℕ → ℕ) (ns : List ℕ) → ((k i : ℕ) → bits k i < 2)
    → (k i : ℕ) → i < get_or ns k 0 → bit_at (sections_of bits ns) (8 * start_of ns k + i) ≡ bits k i
unfolding start_of bytes_of
sections-bit bits [] two k i l = absurd (not-suc-le-zero l)
sections-bit bits (n ∷ ns) two zero i l =
    let e : 8 * 0 + i ≡ i = omega arith in
    ap (bit_at (sections_of bits (n ∷ ns))) e ∙ first_bit bits n ns two i (omega arith) ∙ padded-in (bits 0) n i l
sections-bit bits (n ∷ ns) two (suc k) i l =
    let e : 8 * (section_bytes n + start_of ns k) + i ≡ 8 * section_bytes n + (8 * start_of ns k + i) = omega arith in
    ap (bit_at (sections_of bits (n ∷ ns))) e
    ∙ later-bit bits n ns two (8 * start_of ns k + i)
    ∙ sections-bit (λ (m : ℕ). bits (suc m)) ns (λ m. two (suc m)) k i l

-- THE LAW OF SPARE BITS, where the sections stand from a byte of s on
pub sections-spare :
    (bits : ℕ → ℕ → ℕ) (ns : List ℕ) → ((k i : ℕ) → bits k i < 2) → (s : List ℕ) (at : ℕ)
    → ((b : ℕ) → bit_at s (8 * at + b) ≡ bit_at (sections_of bits ns) b) → Every (λ (b : ℕ). bit_at s b ≡ 0) (spares_from at ns)
unfolding spares_from spare_at
sections-spare bits [] two s at h = tt
sections-spare bits (n ∷ ns) two s at h =
    every_append (λ (b : ℕ). bit_at s b ≡ 0) (span (8 * at + n) (8 * section_bytes n - n)) (spares_from (at + section_bytes n) ns)
    (at_every (λ (b : ℕ). bit_at s b ≡ 0) 0 (span (8 * at + n) (8 * section_bytes n - n)) (λ i l. spare i (omega (arith, span-length (8 * at + n) (8 * section_bytes n - n)))))
    (sections-spare (λ (k : ℕ). bits (suc k)) ns (λ k. two (suc k)) s (at + section_bytes n) rest)
  where
    spare : (i : ℕ) → i < 8 * section_bytes n - n → bit_at s (get_or (span (8 * at + n) (8 * section_bytes n - n)) i 0) ≡ 0
    spare i l =
        let e : 8 * at + n + i ≡ 8 * at + (n + i) = omega arith in
        ap (bit_at s) (span-at (8 * at + n) (8 * section_bytes n - n) i l ∙ e)
        ∙ h (n + i)
        ∙ first_bit bits n ns two (n + i) (omega arith)
        ∙ padded-out (bits 0) n (n + i) (omega arith)

    rest : (b : ℕ) → bit_at s (8 * (at + section_bytes n) + b) ≡ bit_at (sections_of (λ (k : ℕ). bits (suc k)) ns) b
    rest b =
        let e : 8 * (at + section_bytes n) + b ≡ 8 * at + (8 * section_bytes n + b) = omega arith in
        ap (bit_at s) e ∙ h (8 * section_bytes n + b) ∙ later-bit bits n ns two b
