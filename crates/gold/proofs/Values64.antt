-- 64 values of each sequence, whatever the pair: made of the windows, moved on 48 steps, read as bits, and cut to the pair again.
-- Assumes nothing.
use mathlib.Core.Path.{◌≡◌, refl, ap, sym, ◌∙◌}
use mathlib.Core.List.{List, [], ◌∷◌}
use Prim.Native.Nat.{ℕ, zero, suc, ◌+◌, ◌*◌, ◌/◌, ◌%◌, ◌^◌, ◌≤◌, ◌<◌}
use native.Mathlib.Omega.{arith}
use native.Mathlib.Nat.{mod-eq_of_lt}
use lib.Bits.{bit_xor, xor_lt}
use Rattle.base.specs.Digits.{dig, dig-mod}
use Rattle.gold.specs.declared.Registers.{Registers}
use Rattle.gold.specs.declared.Wide.{Wide}
use Rattle.gold.specs.Sequence.{binary}
use Rattle.gold.specs.Steps.{stepped, after, output_of, word_of}
use Rattle.gold.specs.Window.{window, sums, offsets1, offsets2}
use Rattle.gold.specs.Wide.{value, first, second, wide_of, Gives48, Goes48, first31, Narrows}
use Rattle.gold.proofs.Binary.{binary-same, binary-lt, binary-high}
use Rattle.gold.proofs.Jumps.{sum_at, far, jump}
use Rattle.gold.proofs.Window.{Holds, exact, cut, joined, sums-held, later, summed}
use Rattle.gold.proofs.Values.{value-two, Runs, holds-first, whole, rule, runs1, runs2}
use Rattle.gold.proofs.Cores.{fills, outs, outs-two, outs-held}
use Rattle.gold.proofs.Laws.{after_none, after-after}

-- ---- one register
module _ {π : Registers → ℕ} {f : ℕ → ℕ} {R : List ℕ} (u : Runs π f R) (r : Registers) where
  -- of its window's 59 values 64
  longer : (y z v : ℕ) → y ≡ sums (π r) 3 R → z ≡ window (π r) y → v ≡ z % 2 ^ 59 * 2 ^ 5 + sums z 26 R % 2 ^ 5 → v ≡ binary (value π r) 0 64
  longer y z v e g h =
      let all = fills u r y z e g in
      h ∙ joined (value π r) (value-two π r) 0 59 5 z (sums z 26 R) all
      (summed (value π r) (value-two π r) 31 R (rule u r) 0 59 z all 28 5 26 refl u.near26)

  -- the 64 that begin 48 later, where g has the 48 after the first 64
  moved_on : (a g v : ℕ) → a ≡ binary (value π r) 0 64 → Holds (value π r) 64 48 g → v ≡ a % 2 ^ 16 * 2 ^ 48 + g % 2 ^ 48
      → v ≡ binary (value π (after r 48)) 0 64
  moved_on a g v e n h =
      let x = value π r in
      let two = value-two π r in
      h ∙ joined x two 48 16 48 a g
      (ap (λ (z : ℕ). z % 2 ^ 16) {x = a} {y = a / 1} (omega arith) ∙ cut x two 0 64 a (exact x two 0 64 a e) 48 16 0 refl) n
      ∙ binary-same x (value π (after r 48)) 48 0 64 (λ i less. sym (same i))
    where
      same : (i : ℕ) → value π (after r 48) (0 + i) ≡ value π r (48 + i)
      same i = ap (value π (after r 48)) {x = 0 + i} {y = i} (omega arith) ∙ ap (λ (s : Registers). dig (π s) 30) (after-after r 48 i)

  -- the first 31
  narrowed : (a v : ℕ) → a ≡ binary (value π r) 0 64 → v ≡ a / 2 ^ 33 → v ≡ π r % 2 ^ 31
  narrowed a v e g = g ∙ ap (λ (z : ℕ). z / 2 ^ 33) e ∙ binary-high (value π r) (value-two π r) 0 31 33 ∙ sym (holds-first u r)

  -- a register that has stepped has no others
  stepped-small : (n : ℕ) → 1 ≤ n → π (after r n) % 2 ^ 31 ≡ π (after r n)
  stepped-small n some = rw (whole u r n some) (mod-eq_of_lt (binary-lt (value π r) (value-two π r) n 31))

-- ---- the 48 after the first 64
next1 : (r : Registers) (a : ℕ) → Holds (value first r) 0 64 a → Holds (value first r) 64 48 (bit_xor (a / 2 ^ 14) (a / 2 ^ 8))
unfolding far
next1 r a h =
    let x = value first r in
    let two = value-two first r in
    summed x two 62 (6 ∷ 0 ∷ []) (jump x two offsets1 (rule runs1 r) 62) 0 64 a h 2 48 14 refl tt

-- the sums of the values two apart, and of these the sums of those four apart
next2 : (r : Registers) (b : ℕ) → Holds (value second r) 0 64 b
    → Holds (value second r) 64 48 (bit_xor (bit_xor (b / 4) b / 2 ^ 12) (bit_xor (b / 4) b / 2 ^ 8))
unfolding far
next2 r b h = sums-held s s-two (λ (n : ℕ). x (n + 62)) (4 ∷ 0 ∷ []) twice 0 62 (bit_xor (b / 4) b) once 2 48 12 refl tt ∙ later x two 62 2 48
  where
    x : ℕ → ℕ
    x = value second r

    two : (i : ℕ) → x i < 2
    two = value-two second r

    s : ℕ → ℕ
    s n = sum_at x (2 ∷ 0 ∷ []) n % 2

    s-two : (i : ℕ) → s i < 2
    s-two i = omega arith

    once : Holds s 0 62 (bit_xor (b / 4) b)
    once =
        ap (λ (v : ℕ). bit_xor (b / 4) v % 2 ^ 62) {x = b} {y = b / 1} (omega arith)
        ∙ sums-held x two s (2 ∷ 0 ∷ []) (λ n. refl) 0 64 b h 0 62 2 refl tt

    apart : (a b c d : ℕ) → (a + (b + (c + (d + 0)))) % 2 ≡ ((a + (b + 0)) % 2 + ((c + (d + 0)) % 2 + 0)) % 2
    apart a b c d = omega arith

    twice : (n : ℕ) → x (n + 62) ≡ sum_at s (4 ∷ 0 ∷ []) n % 2
    twice n =
        jump x two offsets2 (rule runs2 r) 62 n
        ∙ (λ t.
        (ap x {x = n + 6} {y = n + 4 + 2} (omega arith) t
        + (ap x {x = n + 4} {y = n + 4 + 0} (omega arith) t
        + (ap x {x = n + 2} {y = n + 0 + 2} (omega arith) t + (ap x {x = n + 0} {y = n + 0 + 0} (omega arith) t + 0))))
        % 2)
        ∙ apart (x (n + 4 + 2)) (x (n + 4 + 0)) (x (n + 0 + 2)) (x (n + 0 + 0))

-- ---- what the code computes: the calls of `widen`
pub widen-is : (r : Registers) (w : Wide) (y₁ z₁ y₂ z₂ : ℕ)
    → y₁ ≡ sums r.x1 3 offsets1 → z₁ ≡ window r.x1 y₁ → w.x1 ≡ z₁ % 2 ^ 59 * 2 ^ 5 + sums z₁ 26 offsets1 % 2 ^ 5
    → y₂ ≡ sums r.x2 3 offsets2 → z₂ ≡ window r.x2 y₂ → w.x2 ≡ z₂ % 2 ^ 59 * 2 ^ 5 + sums z₂ 26 offsets2 % 2 ^ 5 → w ≡ wide_of r
unfolding wide_of
widen-is r w y₁ z₁ y₂ z₂ a b c d e f = λ i. record {
  x1 = longer runs1 r y₁ z₁ w.x1 a b c i;
  x2 = longer runs2 r y₂ z₂ w.x2 d e f i;
}

module _ (w : Wide) where
  values1 : (r : Registers) → w ≡ wide_of r → w.x1 ≡ binary (value first r) 0 64
  unfolding wide_of
  values1 r e = ap (λ (s : Wide). s.x1) e

  values2 : (r : Registers) → w ≡ wide_of r → w.x2 ≡ binary (value second r) 0 64
  unfolding wide_of
  values2 r e = ap (λ (s : Wide). s.x2) e

  held1 : (r : Registers) → w ≡ wide_of r → Holds (value first r) 0 64 w.x1
  held1 r e = exact (value first r) (value-two first r) 0 64 w.x1 (values1 r e)

  held2 : (r : Registers) → w ≡ wide_of r → Holds (value second r) 0 64 w.x2
  held2 r e = exact (value second r) (value-two second r) 0 64 w.x2 (values2 r e)

  -- `advance48`
  pub goes48 : (s : Wide)
      → s.x1 ≡ w.x1 % 2 ^ 16 * 2 ^ 48 + bit_xor (w.x1 / 2 ^ 14) (w.x1 / 2 ^ 8) % 2 ^ 48
      → s.x2 ≡ w.x2 % 2 ^ 16 * 2 ^ 48 + bit_xor (bit_xor (w.x2 / 4) w.x2 / 2 ^ 12) (bit_xor (w.x2 / 4) w.x2 / 2 ^ 8) % 2 ^ 48
      → Goes48 w s
  unfolding wide_of
  goes48 s a b = record {
    goes = λ r e i. record {
      x1 = moved_on runs1 r w.x1 _ s.x1 (values1 r e) (next1 r w.x1 (held1 r e)) a i;
      x2 = moved_on runs2 r w.x2 _ s.x2 (values2 r e) (next2 r w.x2 (held2 r e)) b i;
    };
  }

  -- `word48`
  pub gives48 : (v : ℕ) → v ≡ bit_xor w.x1 w.x2 / 2 ^ 16 → Gives48 w v
  unfolding word_of output_of
  gives48 v f = record {
    bits = λ r e.
        f ∙ ap (λ (z : ℕ). z / 2 ^ 16) (sym (mod-eq_of_lt (small r e)) ∙ outs-held r 64 w.x1 w.x2 (held1 r e) (held2 r e))
        ∙ binary-high (outs r) (outs-two r) 0 48 16;
  }
    where
      small : (r : Registers) → w ≡ wide_of r → bit_xor w.x1 w.x2 < 2 ^ 64
      small r e =
          xor_lt 64 w.x1 w.x2 (rw (values1 r e) (binary-lt (value first r) (value-two first r) 0 64))
          (rw (values2 r e) (binary-lt (value second r) (value-two second r) 0 64))

  -- `narrow`
  pub narrows : (s : Registers) → s.x1 ≡ w.x1 / 2 ^ 33 → s.x2 ≡ w.x2 / 2 ^ 33 → Narrows w s
  unfolding first31
  narrows s a b = record {
    narrowed = λ r e i. record {
      x1 = narrowed runs1 r w.x1 s.x1 (values1 r e) a i;
      x2 = narrowed runs2 r w.x2 s.x2 (values2 r e) b i;
    };
  }

-- ---- bit 31 of the registers plays no part in a step, and there is none after one
stepped-first : (r : Registers) → stepped (first31 r) ≡ stepped r
unfolding stepped first31
stepped-first r =
    let bit : (x j : ℕ) → j < 31 → dig (x % 2 ^ 31) j ≡ dig x j = λ x j less. dig-mod x 31 j less in
    let low : (x : ℕ) → x % 2 ^ 31 % 2 ^ 30 ≡ x % 2 ^ 30 = λ x. omega arith in
    λ i. record {
      x1 = low r.x1 i * 2 + (bit r.x1 27 (omega arith) i + bit r.x1 30 (omega arith) i) % 2;
      x2 =
          low r.x2 i * 2
          + (bit r.x2 27 (omega arith) i + bit r.x2 28 (omega arith) i + bit r.x2 29 (omega arith) i + bit r.x2 30 (omega arith) i) % 2;
    }

after_first : (r : Registers) (n : ℕ) → after (first31 r) (suc n) ≡ after r (suc n)
unfolding after
after_first r zero = stepped-first r
after_first r (suc n) = ap stepped (after_first r n)

-- the pair that `narrow` gives of the values after m steps, n steps on
pub narrow-after : (r : Registers) (m n : ℕ) → 1 ≤ m + n → after (first31 (after r m)) n ≡ after r (m + n)
unfolding first31
narrow-after r m zero some =
    after_none (first31 (after r m))
    ∙ (λ i. record { x1 = stepped-small runs1 r m (omega arith) i; x2 = stepped-small runs2 r m (omega arith) i })
    ∙ ap (after r) {x = m} {y = m + 0} (omega arith)
narrow-after r m (suc n) some = after_first (after r m) n ∙ after-after r m (suc n)
