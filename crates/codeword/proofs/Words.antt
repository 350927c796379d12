-- Words of six bytes, 48 bits at a time: bytes read, the state as it goes, and the pair after it. Assumes nothing.
use mathlib.Core.Path.{◌≡◌, refl, sym, ap, ◌∙◌}
use mathlib.Core.List.{List}
use Prim.Native.Nat.{ℕ, zero, suc, ◌+◌, ◌-◌, ◌*◌, ◌/◌, ◌%◌, ◌^◌, ◌<◌, ◌≤◌}
use native.Mathlib.Nat.{zero-div, mod-eq_of_lt}
use native.Mathlib.Omega.{arith}
use lib.ListN.{length, get_or, get_or-eq_default}
use lib.Bits.{bit_xor}
use lib.Pow.{pow_mono}
use Rattle.base.specs.Bits.{bit_at}
use Rattle.gold.specs.declared.Registers.{Registers}
use Rattle.gold.specs.declared.Wide.{Wide}
use Rattle.gold.specs.Sequence.{binary}
use Rattle.gold.specs.Steps.{after}
use Rattle.gold.specs.Wide.{wide_of, Gives48, Goes48, Narrows}
use Rattle.gold.proofs.Binary.{binary-none, binary-split, binary-lt, binary-high}
use Rattle.gold.proofs.Laws.{after_none, after-after}
use Rattle.gold.proofs.Values64.{narrow-after}
use Rattle.codeword.specs.declared.ScrambledBits.{ScrambledBits}
use Rattle.codeword.specs.Streams.{outputs}
use Rattle.codeword.specs.Bits48.{scrambled_bits, last_at, last_word, WordAt, Due, Next48, Begins48, Ends}
use Rattle.codeword.proofs.Streams.{bit-lt, byte_word, three-bytes, more-word}
use Rattle.codeword.proofs.Laws.{scrambled-lt}

-- ---- bytes
-- n bytes, and the next
pub byte_more : (s : List ℕ) (a n v b : ℕ) → v ≡ binary (bit_at s) (8 * a) (8 * n) → (b ≡ get_or s (a + n) 0) × (b < 256)
    → v * 256 + b ≡ binary (bit_at s) (8 * a) (8 * (n + 1))
byte_more s a n v b e h =
    let x = bit_at s in
    let k : 8 * (a + n) ≡ 8 * a + 8 * n = omega arith in
    let m : 8 * n + 8 ≡ 8 * (n + 1) = omega arith in
    let l : b ≡ binary x (8 * a + 8 * n) 8 = h.0 ∙ sym (byte_word s (a + n) (omega (arith, h.0))) ∙ ap (λ (i : ℕ). binary x i 8) k in
    (λ t. e t * 256 + l t) ∙ sym (binary-split x (8 * a) (8 * n) 8) ∙ ap (binary x (8 * a)) m

-- what `bits32` computes
pub four_bytes : (s : List ℕ) (a u v w z : ℕ) → (u ≡ get_or s a 0) × (u < 256) → (v ≡ get_or s (a + 1) 0) × (v < 256)
    → (w ≡ get_or s (a + 2) 0) × (w < 256) → (z ≡ get_or s (a + 3) 0) × (z < 256)
    → u * 16777216 + v * 65536 + w * 256 + z ≡ binary (bit_at s) (8 * a) 32
four_bytes s a u v w z hu hv hw hz =
    let e : u * 16777216 + v * 65536 + w * 256 + z ≡ (u * 65536 + v * 256 + w) * 256 + z = omega arith in
    e ∙ byte_more s a 3 (u * 65536 + v * 256 + w) z (three-bytes s a u v w hu hv hw) hz

-- the loop of `last_bits`
pub record Read (s : List ℕ) (a n w : ℕ) : Type 0 where
  pub most : n ≤ 6
  pub word : w ≡ binary (bit_at s) (8 * a) (8 * n)

pub read_none : (s : List ℕ) (a : ℕ) → Read s a 0 0
read_none s a = record { most = omega arith; word = sym (binary-none (bit_at s) (8 * a)) }

pub read-lt : {s : List ℕ} {a n w : ℕ} → Read s a n w → n < 6 → w < 2 ^ 40
read-lt {s} {a} {n} {w} h less =
    let l : binary (bit_at s) (8 * a) (8 * n) < 2 ^ (8 * n) = binary-lt (bit_at s) (bit-lt s) (8 * a) (8 * n) in
    let m : 8 * n ≤ 40 = omega arith in
    let p : 2 ^ (8 * n) ≤ 2 ^ 40 = pow_mono m in
    omega (arith, h.word)

pub read_more : {s : List ℕ} {a n w b : ℕ} → Read s a n w → n < 6 → (b ≡ get_or s (a + n) 0) × (b < 256) → Read s a (n + 1) (w * 256 + b)
read_more {s} {a} {n} {w} {b} h less e = record { most = omega arith; word = byte_more s a n w b h.word e }

pub read_done : {s : List ℕ} {a n w : ℕ} → Read s a n w → 6 ≤ n → w ≡ binary (bit_at s) (8 * a) 48
read_done {s} {a} {n} {w} h all =
    let m : n ≤ 6 = h.most in
    let e : 8 * n ≡ 48 = omega arith in
    h.word ∙ ap (binary (bit_at s) (8 * a)) e

-- past the end
past : (s : List ℕ) (a n : ℕ) → length s ≤ a → binary (bit_at s) (8 * a) n ≡ 0
unfolding binary bit_at
past s a zero h = refl
past s a (suc n) h =
    let k : length s ≤ (8 * a + n) / 8 = omega arith in
    let e : get_or s ((8 * a + n) / 8) 0 ≡ 0 = get_or-eq_default s 0 k in
    let z : 0 / 2 ^ (7 - (8 * a + n) % 8) ≡ 0 = zero-div (2 ^ (7 - (8 * a + n) % 8)) in
    (λ t. past s a n h t * 2 + e t / 2 ^ (7 - (8 * a + n) % 8) % 2) ∙ ap (λ (v : ℕ). 0 * 2 + v % 2) z

-- the last word, as `begin` reads it
pub last-is : (s : List ℕ) (a w : ℕ) → a ≡ last_at (length s) → w ≡ binary (bit_at s) (8 * a) 48 → w ≡ last_word s
unfolding last_word
last-is s a w e f = f ∙ ap (λ (i : ℕ). binary (bit_at s) (8 * i) 48) e

-- ---- what the returns of `bits48` give
pub word_fits : (s : List ℕ) (k n u : ℕ) → u ≡ binary (bit_at s) k n → u < 2 ^ n
word_fits s k n u e = rw e (binary-lt (bit_at s) (bit-lt s) k n)

pub reads-eight : (s : List ℕ) (a last u v : ℕ) → u ≡ binary (bit_at s) (8 * a) 32 → v ≡ binary (bit_at s) (8 * (a + 4)) 32
    → WordAt s a last ((u * 4294967296 + v) / 65536)
reads-eight s a last u v e f = record {
  word = λ w l.
      let x = bit_at s in
      let k : 8 * (a + 4) ≡ 8 * a + 32 = omega arith in
      ap (λ (z : ℕ). z / 65536)
      ((λ t. e t * 4294967296 + (f ∙ ap (λ (j : ℕ). binary x j 32) k) t) ∙ sym (binary-split x (8 * a) 32 32))
      ∙ binary-high x (bit-lt s) (8 * a) 48 16;
}

pub reads-last : (s : List ℕ) (a last : ℕ) → length s < a + 8 → a + 2 ≤ length s → WordAt s a last last
unfolding last_word
reads-last s a last h g = record {
  word = λ w l.
      let k : 8 * last_at (length s) ≡ 8 * a = omega arith in
      l ∙ ap (λ (i : ℕ). binary (bit_at s) i 48) k;
}

pub reads-one : (s : List ℕ) (a last b : ℕ) → length s < a + 2 → (b ≡ get_or s a 0) × (b < 256) → WordAt s a last (b * 1099511627776)
reads-one s a last b h e = record {
  word = λ w l.
      let x = bit_at s in
      let k : 8 * (a + 1) ≡ 8 * a + 8 = omega arith in
      let first : b ≡ binary x (8 * a) 8 = e.0 ∙ sym (byte_word s a (omega (arith, e.0))) in
      let rest : 0 ≡ binary x (8 * a + 8) 40 = sym (past s (a + 1) 40 (omega arith)) ∙ ap (λ (i : ℕ). binary x i 40) k in
      let z : b * 1099511627776 ≡ b * 1099511627776 + 0 = omega arith in
      z ∙ (λ t. first t * 1099511627776 + rest t) ∙ sym (binary-split x (8 * a) 8 40);
}

-- ---- the state
-- word k, scrambled
sent_word : (bits : List ℕ) (r : Registers) (w : Wide) (k at last b v : ℕ) → at ≡ 6 * k → last ≡ last_word bits → WordAt bits at last b
    → w ≡ wide_of (after r (48 * k)) → Gives48 w v → bit_xor b v ≡ binary (scrambled_bits bits r) (48 * k) 48
sent_word bits r w k at last b v e l h p g =
    let m : at % 6 ≡ 0 = omega arith in
    let n : 8 * at ≡ 48 * k = omega arith in
    (λ t. bit_xor ((h.word m l ∙ ap (λ (i : ℕ). binary (bit_at bits) i 48) n) t) (g.bits (after r (48 * k)) p t))
    ∙ more-word bits r (48 * k) 48

-- what the calls of `begin` give
pub begins48 : (bits : List ℕ) (r : Registers) (w : Wide) (last b v : ℕ) → w ≡ wide_of r → last ≡ last_word bits → WordAt bits 0 last b → Gives48 w v
    → Begins48 bits r (record { wide = w; at = 6; last = last; rest = record { word = bit_xor b v; left = 48 } })
begins48 bits r w last b v e l h g =
    let p : w ≡ wide_of (after r (48 * 0)) = e ∙ ap wide_of (sym (after_none r)) in
    let s : bit_xor b v ≡ binary (scrambled_bits bits r) 0 48 = sent_word bits r w 0 0 last b v refl l h p g in
    record {
      ready =
          record {
            number = 0;
            due = record { pair = p; byte = refl; last = l };
            taken = refl;
            held =
                ap (λ (z : ℕ). z % 2 ^ 48) s ∙ mod-eq_of_lt (binary-lt (scrambled_bits bits r) (scrambled-lt (bit_at bits) (outputs r)) 0 48);
          };
      full = refl;
    }

-- what the calls of `next48` give
pub next48-is : (bits : List ℕ) (st : ScrambledBits) (w : Wide) (b v : ℕ) → Goes48 st.wide w → WordAt bits st.at st.last b → Gives48 w v
    → Next48 bits st (bit_xor b v) (record st { wide = w; at = st.at + 6 })
next48-is bits st w b v h f g = record {
  goes = λ r k d.
      let n : 48 * k + 48 ≡ 48 * (k + 1) = omega arith in
      let p : w ≡ wide_of (after r (48 * (k + 1))) =
      h.goes (after r (48 * k)) d.pair ∙ ap wide_of (after-after r (48 * k) 48 ∙ ap (after r) n) in (
        sent_word bits r w (k + 1) st.at st.last b v d.byte d.last f p g,
        record { pair = p; byte = omega (arith, d.byte); last = d.last },
      );
}

-- ---- what the returns of `end` give
module _ (r : Registers) (st : ScrambledBits) (p : Registers) (h : Narrows st.wide p) where
  -- the pair where the word in use begins, and n bits on
  from-word : (k n : ℕ) {bits : List ℕ} → Due bits r k st → 1 ≤ 48 * k + n → after p n ≡ after r (48 * k + n)
  from-word k n d some = ap (λ (q : Registers). after q n) (h.narrowed (after r (48 * k)) d.pair) ∙ narrow-after r (48 * k) n some

  pub ends-within : (x : Registers) → st.rest.left < 48 → x ≡ after p (48 - st.rest.left) → Ends r st x
  ends-within x less e = record {
    exact = λ bits n y.
        let m : 48 * y.number + (48 - st.rest.left) ≡ n = omega (arith, y.taken) in
        e ∙ from-word y.number (48 - st.rest.left) y.due (omega arith) ∙ ap (after r) m;
  }

  pub ends-none : st.rest.left ≡ 48 → st.at ≡ 6 → Ends r st r
  ends-none e f = record {
    exact = λ bits n y.
        let m : 0 ≡ n = omega (arith, y.taken, y.due.byte) in
        sym (after_none r) ∙ ap (after r) m;
  }

  pub ends-whole : st.rest.left ≡ 48 → (st.at ≡ 6 → ⊥) → Ends r st p
  ends-whole e f = record {
    exact = λ bits n y.
        let b : st.at ≡ 6 * (y.number + 1) = y.due.byte in
        let some : 1 ≤ 48 * y.number + 0 = positive y.number b in
        let m : 48 * y.number + 0 ≡ n = omega (arith, y.taken) in
        sym (after_none p) ∙ from-word y.number 0 y.due some ∙ ap (after r) m;
  }
    where
      positive : (k : ℕ) → st.at ≡ 6 * (k + 1) → 1 ≤ 48 * k + 0
      positive zero b = absurd (f b)
      positive (suc k) b = omega arith
