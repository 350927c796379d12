-- THE SECTION as its bits are given: the start, 48 bits put, n bits more, and the end. Assumes what giving needs.
use Prim.Native.Nat.{ℕ, ◌+◌, ◌-◌, ◌*◌, ◌/◌, ◌%◌, ◌^◌, ◌≤◌, ◌<◌}
use mathlib.Core.Path.{◌≡◌, refl, sym, ap, ap₂, ◌∙◌}
use mathlib.Core.List.{List}
use native.Mathlib.Nat.{zero-add, mod-eq_of_lt}
use native.Mathlib.Omega.{arith}
use lib.Bits.{bit_xor}
use lib.ListN.{length, set, length-set}
use Rattle.base.proofs.Tables.{set_more}
use Rattle.gold.specs.declared.Registers.{Registers}
use Rattle.gold.specs.declared.Wide.{Wide}
use Rattle.gold.specs.Sequence.{binary}
use Rattle.gold.specs.Steps.{after, output_of, word_of}
use Rattle.gold.specs.Wide.{wide_of, Gives48, Goes48}
use Rattle.gold.proofs.Binary.{binary-none, binary-same, binary-high, binary-lt}
use Rattle.gold.proofs.Laws.{after_none, after-after}
use Rattle.gold.proofs.Window.{Holds}
use Rattle.codeword.specs.Codewords.{scrambled}
use Rattle.codeword.specs.Streams.{outputs}
use Rattle.codeword.proofs.Laws.{outputs-lt, scrambled-lt, word-scrambled}
use Rattle.codeword.proofs.Taking.{first-held, others-held}
use Rattle.section_bits.specs.declared.SectionBits.{SectionBits}
use Rattle.section_bits.specs.Gathering.{with_four, with_two, up_to, Bits, bits_in, State, Gathered, Begun, Puts48, GiveIn, Gives, LastBytes, PutLast, Flushed}
use Rattle.section_bits.proofs.Packing.{shifted_in, six-put, first_byte, next-shifted, cut-two, outside, whole-bytes, last_word}

-- ---- the start
pub begun : (r : Registers) {w : Wide} → w ≡ wide_of r → Begun r (record { wide = w; at = 0; word = 0; held = 0 })
begun r {w} e =
    record {
      state = record { few = omega arith; whole = refl };
      none = refl;
      gathered = λ b part.
          record { pair = e ∙ ap wide_of (sym (after_none r)); held = sym (binary-none b 0); bytes = λ m h. absurd (omega arith) };
    }

-- ---- the sequence taken off
sequence-word : (r : Registers) (n k : ℕ) → word_of (after r n) k ≡ binary (outputs r) n k
unfolding word_of outputs
sequence-word r n k =
    binary-same (outputs (after r n)) (outputs r) 0 n k
    (λ i less. ap (outputs (after r n)) (zero-add i) ∙ ap output_of (after-after r n i))

module _ (b : ℕ → ℕ) (two : Bits b) (r : Registers) where
  abbrev sent : ℕ → ℕ
  sent = scrambled b (outputs r)

  taken-off : (k n : ℕ) {v s : ℕ} → v ≡ binary b k n → s ≡ binary (outputs r) k n → bit_xor v s ≡ binary sent k n
  taken-off k n e f = ap₂ bit_xor e f ∙ sym (word-scrambled b (outputs r) two (outputs-lt r) k n)

  -- the next 48 of the sequence
  due : (k : ℕ) {s : ℕ} {w : Wide} → w ≡ wide_of (after r k) → Gives48 w s → s ≡ binary (outputs r) k 48
  due k e g = g.bits (after r k) e ∙ sequence-word r k 48

-- ---- 48 bits put
module _ (v : ℕ) (st : SectionBits) (part : List ℕ) {s : ℕ} {next : Wide} (room : st.at + 6 ≤ length part) (g : Gives48 st.wide s) (h : Goes48 st.wide next) where
  abbrev x : ℕ
  x = bit_xor v s

  pub puts48 :
      {p q : List ℕ} → p ≡ with_four (x / 65536 % 4294967296) st.at part → q ≡ with_two (x % 65536) (st.at + 4) p
      → Puts48 v st part (record { wide = next; at = st.at + 6; word = st.word; held = st.held }) q
  puts48 e f =
      rw (f, e)
      (record {
        size = simp length-set refl;
        byte = refl;
        word = refl;
        held = refl;
        puts = λ b r two e p s. (
          h.goes (after r (8 * st.at)) p ∙ ap wide_of (after-after r (8 * st.at) 48),
          six-put (scrambled b (outputs r)) (scrambled-lt b (outputs r)) x st.at part room (taken-off b two r (8 * st.at) 48 e (due b two r (8 * st.at) p g)) s,
        );
      })

-- ---- n bits more
module _ {n v : ℕ} {st : SectionBits} {part : List ℕ} (h : GiveIn n v st part) {word : ℕ} (ew : word ≡ st.word * 2 ^ n % 2 ^ 64 + v) where
  abbrev got : ℕ
  got = st.held

  abbrev mid : ℕ → SectionBits
  mid m = record { wide = st.wide; at = st.at; word = word; held = m }

  holds : (b : ℕ → ℕ) (r : Registers) → Bits b → v ≡ binary b (bits_in st) n → Gathered b r st part → Holds b (8 * st.at) (got + n) word
  holds b r two e k = rw ew (shifted_in b two (8 * st.at) got n st.word v h.fits k.held e)

  -- they are held
  pub given-held : got + n < 48 → Gives n v st part (mid (got + n)) part
  given-held l =
      record {
        state = record { few = l; whole = h.state.whole };
        size = refl;
        taken = omega arith;
        gathers = λ b r two e k. record { pair = k.pair; held = holds b r two e k; bytes = k.bytes };
      }

  -- or the first 48 of those held are put
  pub given-room : 48 ≤ got + n → st.at + 6 ≤ length part
  given-room l = omega (arith, h.room)

  pub given-put :
      48 ≤ got + n → {st' : SectionBits} {part' : List ℕ} → Puts48 (word / 2 ^ (got + n - 48) % 281474976710656) (mid (got + n - 48)) part st' part'
      → Gives n v st part st' part'
  given-put l {st'} {part'} p =
      record {
        state = record { few = omega (arith, p.held, h.state.few, h.most); whole = omega (arith, p.byte, h.state.whole) };
        size = p.size;
        taken = omega (arith, p.held, p.byte);
        gathers = all;
      }
    where
      all : (b : ℕ → ℕ) (r : Registers) → Bits b → v ≡ binary b (bits_in st) n → Gathered b r st part → Gathered b r st' part'
      all b r two e k =
          let k8 = 8 * st.at in
          let w = holds b r two e k in
          let first : Holds b k8 48 (word / 2 ^ (got + n - 48)) = first-held b two k8 (got + n) word 48 l w in
          let others : Holds b (k8 + 48) (got + n - 48) word = others-held b two k8 (got + n) word 48 l w in
          let next : k8 + 48 ≡ 8 * (st.at + 6) = omega arith in
          let c = p.puts b r two first k.pair k.bytes in
          record {
            pair = rw (p.byte, ← next) c.0;
            held = rw (p.held, p.word, p.byte, ← next) others;
            bytes = λ m d. c.1 m (omega (arith, p.byte));
          }

-- ---- the last bytes
pub last-start : (v at : ℕ) (part : List ℕ) → LastBytes v at part v at part
last-start v at part = record { size = refl; goes = λ x two e zeros s. (omega arith, e, s) }

pub last_on :
    {v₀ at₀ v at : ℕ} {part₀ part : List ℕ} → LastBytes v₀ at₀ part₀ v at part → at < length part
    → LastBytes v₀ at₀ part₀ (v % 1099511627776 * 256) (at + 1) (set part at (v / 1099511627776 % 256))
last_on {v₀} {at₀} {v} {at} {part₀} {part} h l =
    record {
      size = simp length-set h.size;
      goes = λ x two e zeros s.
          let c = h.goes x two e zeros s in
          let k : 8 * at + 8 ≡ 8 * (at + 1) = omega arith in (
            omega (arith, c.0),
            next-shifted x two (8 * at) v c.1 (λ i m. zeros i (omega (arith, c.0))) ∙ ap (λ (i : ℕ). binary x i 48) k,
            set_more 0 (λ (m : ℕ). binary x (8 * m) 8) part at _ l (first_byte x two (8 * at) v c.1) c.2,
          );
    }

pub last_end : {v₀ at₀ v at : ℕ} {part₀ part : List ℕ} → LastBytes v₀ at₀ part₀ v at part → length part ≤ at → PutLast v₀ at₀ part₀ part
last_end h l = record { size = h.size; bytes = λ x two e zeros s m k. (h.goes x two e zeros s).2 m (omega (arith, h.size)) }

-- ---- and the end
module _ {st : SectionBits} {part : List ℕ} (h : State st) where
  pub none-held : st.held ≡ 0 → Flushed st part part
  none-held z =
      record {
        size = refl;
        bytes = λ b r two e k m l.
            whole-bytes (scrambled b (outputs r)) (scrambled-lt b (outputs r)) (bits_in st) st.at part (omega arith) k.bytes m (omega arith);
      }

  pub last-put :
      {s p : ℕ} {part' : List ℕ} → Gives48 (st.wide) s → p ≡ 2 ^ st.held
      → PutLast (bit_xor (st.word % p) (s / 2 ^ (48 - st.held)) * 2 ^ (48 - st.held) % 2 ^ 64) st.at part part' → Flushed st part part'
  last-put {s} {p} g ep f =
      record {
        size = f.size;
        bytes = λ b r two e k.
            let lt = scrambled-lt b (outputs r) in
            f.bytes (up_to (sent b two r) (bits_in st)) (cut-two (sent b two r) lt (bits_in st)) (bits b r two k)
            (λ i m. outside (sent b two r) lt (bits_in st) i (omega (arith, h.few)))
            (whole-bytes (sent b two r) lt (bits_in st) st.at part (omega arith) k.bytes);
      }
    where
      bits :
          (b : ℕ → ℕ) (r : Registers) → Bits b → Gathered b r st part
          → bit_xor (st.word % p) (s / 2 ^ (48 - st.held)) * 2 ^ (48 - st.held) % 2 ^ 64
          ≡ binary (up_to (scrambled b (outputs r)) (bits_in st)) (8 * st.at) 48
      bits b r two k =
          let got = st.held in
          let k8 = 8 * st.at in
          let x = up_to (scrambled b (outputs r)) (bits_in st) in
          let n : 48 ≡ got + (48 - got) = omega (arith, h.few) in
          let d = due b two r k8 k.pair g ∙ ap (binary (outputs r) k8) n in
          let q : s / 2 ^ (48 - got) ≡ binary (outputs r) k8 got =
          ap (λ (z : ℕ). z / 2 ^ (48 - got)) d ∙ binary-high (outputs r) (outputs-lt r) k8 got (48 - got) in
          let w =
          ap (λ (y : ℕ). y * 2 ^ (48 - got)) (taken-off b two r k8 got (ap (λ (z : ℕ). st.word % z) ep ∙ k.held) q)
          ∙ last_word (sent b two r) (scrambled-lt b (outputs r)) (bits_in st) k8 got (omega (arith, h.few)) refl in
          let l : binary x k8 48 < 2 ^ 48 = binary-lt x (cut-two (sent b two r) (scrambled-lt b (outputs r)) (bits_in st)) k8 48 in
          ap (λ (z : ℕ). z % 2 ^ 64) w ∙ mod-eq_of_lt (omega arith)
