-- A QUAD'S BYTE: the elements of its entry, their bits, and the sequence taken off. Assumes that the quad is inside the grid.
use Prim.Native.Nat.{ℕ, ◌+◌, ◌-◌, ◌*◌, ◌/◌, ◌%◌, ◌^◌, ◌≤◌, ◌<◌}
use mathlib.Core.Path.{◌≡◌, refl, sym, ap, ap₂, ◌∙◌}
use mathlib.Core.List.{List}
use native.Mathlib.Nat.{mul-le-mul, mod-eq_of_lt}
use native.Mathlib.Omega.{arith}
use lib.Bits.{bit_xor, xor_lt}
use lib.ListN.{length}
use Rattle.gold.specs.declared.Registers.{Registers}
use Rattle.gold.specs.Sequence.{binary}
use Rattle.gold.specs.Steps.{after, word_of}
use Rattle.gold.proofs.Binary.{binary-lt}
use Rattle.codeword.proofs.Streams.{word_after}
use Rattle.codeword.specs.Codewords.{scrambled}
use Rattle.codeword.specs.Streams.{outputs}
use Rattle.codeword.proofs.Laws.{outputs-lt, word-scrambled}
use Rattle.precoding.specs.Places.{own_port}
use Rattle.plan.specs.declared.Cell.{Cell}
use Rattle.places.specs.Places.{places_of}
use Rattle.grid.specs.Elements.{element_in}
use Rattle.grid.proofs.Sending.{own-lt, element-fits}
use Rattle.element_pairs.specs.Numbers.{upper, TwoRead}
use Rattle.section_bits.specs.Gathering.{Bits}
use Rattle.walk.specs.declared.PortOffsets.{PortOffsets}
use Rattle.walk.specs.Addresses.{OffsetsAt}
use Rattle.walk.proofs.Addresses.{own-few}
use Rattle.data_read.specs.Runs.{both_of}
use Rattle.data_read.proofs.Words.{both_bits, four-bits}
use Rattle.pdcch.specs.Groups.{gap_of}
use Rattle.pdcch_compare.specs.Quads.{entry_place, EntryIn}
use Rattle.pdcch_compare.proofs.Pairs.{last-place, gap-few}
use Rattle.pdcch_read.specs.Bytes.{entry_element, EntryRead}

-- ---- the elements of an entry
pub entry-places : {c : Cell} {x T : ℕ} {g : List ℕ} → EntryIn c x g → T ≡ places_of c → T ≤ 16800
entry-places h et = omega (arith, et, h.room.fits)

module _ {c : Cell} {x T gap : ℕ} {g : List ℕ} (h : EntryIn c x g) (et : T ≡ places_of c) (eg : gap ≡ gap_of c (x % 2)) {p : PortOffsets} (off : OffsetsAt c.ports T 0 p) where
  abbrev P : ℕ
  P = c.ports

  own-at : p.own ≡ own_port P 0 * places_of c
  own-at = off.own ∙ ap (λ (t : ℕ). own_port P 0 * t) et

  next-at : p.next ≡ own_port P 1 * places_of c
  next-at = off.next ∙ ap (λ (t : ℕ). own_port P 1 * t) et

  element-0 : entry_element c x 0 ≡ p.own + x / 2
  unfolding entry_place
  element-0 = omega (arith, own-at)

  element-1 : entry_element c x 1 ≡ p.own + x / 2 + gap
  unfolding entry_place
  element-1 = omega (arith, own-at, eg)

  element-2 : entry_element c x 2 ≡ p.next + (x / 2 + (3 - x % 2))
  unfolding entry_place
  element-2 = omega (arith, next-at)

  element-3 : entry_element c x 3 ≡ p.next + (x / 2 + (3 - x % 2)) + gap
  unfolding entry_place
  element-3 = omega (arith, next-at, eg)

  inside : x / 2 + (3 - x % 2) + gap < places_of c
  inside = omega (arith, h.inside, last-place c x, eg)

  port-small : (k : ℕ) → own_port P k * places_of c ≤ 16800
  port-small k = omega (arith, mul-le-mul {n₁ = own_port P k} {m₁ = places_of c} {n₂ = 1} {m₂ = 16800} (own-few P k) h.room.fits)

  pub entry-small : (p.own ≤ 16800) × (p.next ≤ 16800) × (x / 2 + 3 ≤ 16803) × (gap ≤ 2)
  entry-small = (omega (arith, own-at, port-small 0), omega (arith, next-at, port-small 1), omega (arith, inside, h.room.fits), omega (arith, eg, gap-few c (x % 2)))

  pub entry-fits : (3 * (p.own + x / 2) + 3 * gap + 2 < length g) × (3 * (p.next + (x / 2 + (3 - x % 2))) + 3 * gap + 2 < length g)
  entry-fits = (
    omega (arith, own-at, (element-fits h.room (own_port P 0) (x / 2 + gap) (own-lt h.room 0) (omega (arith, inside))).2),
    omega (arith, next-at, (element-fits h.room (own_port P 1) (x / 2 + (3 - x % 2) + gap) (own-lt h.room 1) inside).2),
  )

  -- ---- their bits
  pub entry_read :
      {d : List ℕ} {a b w : ℕ} → TwoRead gap (3 * (p.own + x / 2)) g a → TwoRead gap (3 * (p.next + (x / 2 + (3 - x % 2)))) g b
      → w ≡ both_of 2 d a * 2 ^ (2 * 2) + both_of 2 d b → w < 2 ^ (4 * 2) → EntryRead c x d g w
  entry_read {d} {a} {b} {w} ra rb ew l =
      record {
        few = l;
        bits = λ y j st.
            let e0 = (st 0 (omega arith)).word a (ap (element_in g) element-0 ∙ ra.first (p.own + x / 2) refl) in
            let e1 = (st 1 (omega arith)).word (upper a) (ap (element_in g) element-1 ∙ ra.second (p.own + x / 2) refl) in
            let e2 = (st 2 (omega arith)).word b (ap (element_in g) element-2 ∙ rb.first (p.next + (x / 2 + (3 - x % 2))) refl) in
            let e3 = (st 3 (omega arith)).word (upper b) (ap (element_in g) element-3 ∙ rb.second (p.next + (x / 2 + (3 - x % 2))) refl) in
            let z : j + 0 ≡ j = omega arith in
            let s : j + 3 ≡ j + 2 + 1 = omega arith in
            ew
            ∙ four-bits y 2 j (both_bits y 2 j d a (e0 ∙ ap (λ (k : ℕ). binary y (2 * k) 2) z) e1)
            (both_bits y 2 (j + 2) d b e2 (e3 ∙ ap (λ (k : ℕ). binary y (2 * k) 2) s));
      }

-- ---- the sequence taken off
pub taken-off : (b : ℕ → ℕ) (o : Registers) (k : ℕ) {w : ℕ} → Bits b → w ≡ binary b k 8 → bit_xor w (word_of (after o k) 8) ≡ binary (scrambled b (outputs o)) k 8
taken-off b o k two e = ap₂ bit_xor e (word_after o k 8) ∙ sym (word-scrambled b (outputs o) two (outputs-lt o) k 8)

word-few : (s : Registers) → word_of s 8 < 256
unfolding word_of outputs
word-few s = binary-lt (outputs s) (outputs-lt s) 0 8

pub byte-is : (s : Registers) {w z : ℕ} → w < 256 → z ≡ word_of s 8 → bit_xor w z % 256 ≡ bit_xor w (word_of s 8)
byte-is s {w} l e = ap (λ (y : ℕ). bit_xor w y % 256) e ∙ mod-eq_of_lt (xor_lt 8 w (word_of s 8) l (word-few s))
