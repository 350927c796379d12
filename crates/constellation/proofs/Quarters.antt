-- THE LAWS OF WIDENING: from the entries of words of k bits those with two bits more in front, and from those of q bits all 256.
-- Assumes nothing.
use Prim.Native.Nat.{ℕ, zero, suc, ◌+◌, ◌-◌, ◌*◌, ◌/◌, ◌%◌, ◌^◌, ◌≤◌, ◌<◌}
use mathlib.Core.Path.{◌≡◌, sym, ap, ap₂, ◌∙◌}
use mathlib.Core.List.{List, ◌∷◌}
use native.Mathlib.Decide.{ℕ_discrete}
use native.Mathlib.Nat.{add_comm, add-mod_right, mod-lt}
use native.Mathlib.Omega.{arith}
use lib.IntN.{ℤ, pos, neg_ℤ, nat_abs, ◌-ℤ◌}
use lib.ListN.{length, get_or, set, length-set}
use lib.Pow.{pow_mono, pow_pos, high, low, split, shr_lt}
use lib.Seq.{get_or-set_same, get_or-set_other}
use Rattle.base.specs.declared.Pair.{Pair}
use Rattle.base.specs.Bytes.{byte_of}
use Rattle.base.specs.Digits.{dig, dig-shr}
use Rattle.base.specs.Signs.{flip}
use Rattle.base.proofs.Fits.{abs-minus}
use Rattle.base.proofs.Pairs.{pair-of}
use Rattle.base.proofs.Tables.{set_more}
use Rattle.modulation.specs.Symbols.{bits_of, evens, odds, level, modulation_symbol}
use Rattle.modulation.proofs.Places.{evens-cons, evens-length, odds-length}
use Rattle.modulation.proofs.Symbols.{symbol-small}
use Rattle.modulation.proofs.Words.{word-length, word_low}
use Rattle.constellation.specs.Entries.{three_bytes, element_number, byte_less, four_set, Entries, Elements, Widened}
use Rattle.constellation.proofs.Bytes.{byte_small, less-byte, minus-byte, byte-second, byte-third}

-- ---- two bits in front of k
word-block : (k c y : ℕ) → y < 2 ^ k → bits_of (k + 2) (c * 2 ^ k + y) ≡ dig c 1 ∷ dig c 0 ∷ bits_of k y
unfolding bits_of
word-block k c y l =
    let w = c * 2 ^ k + y in
    let e = high c k l in
    let two : k + 2 ≡ suc (suc k) = omega arith in
    let one : suc k ≡ k + 1 = omega arith in
    let none : k ≡ k + 0 = omega arith in
    let a : dig w (suc k) ≡ dig c 1 = ap (dig w) one ∙ sym (dig-shr w k 1) ∙ ap (λ (x : ℕ). dig x 1) e in
    let b : dig w k ≡ dig c 0 = ap (dig w) none ∙ sym (dig-shr w k 0) ∙ ap (λ (x : ℕ). dig x 0) e in
    let r : bits_of k w ≡ bits_of k y = sym (word_low k k w (omega arith)) ∙ ap (bits_of k) (low c k l) in
    ap (λ (n : ℕ). bits_of n w) two ∙ ap₂ (λ (x : ℕ) (xs : List ℕ). x ∷ xs) a (ap₂ (λ (x : ℕ) (xs : List ℕ). x ∷ xs) b r)

symbol-block :
    (k c y : ℕ) → k % 2 ≡ 0 → y < 2 ^ k
    → ◌≡◌ {A = Pair} (modulation_symbol (k + 2) (c * 2 ^ k + y))
    (record { re = flip (dig c 1) (pos (2 ^ (k / 2)) -ℤ (modulation_symbol k y).re); im = flip (dig c 0) (pos (2 ^ (k / 2)) -ℤ (modulation_symbol k y).im) })
unfolding modulation_symbol level evens odds
symbol-block k c y even l =
    let bs = bits_of k y in
    let n = word-length k y in
    let e : length (evens bs) ≡ k / 2 = omega (arith, evens-length bs) in
    let o : length (odds bs) ≡ k / 2 = omega (arith, odds-length bs) in
    pair-of
    (ap (λ (xs : List ℕ). level (evens xs)) (word-block k c y l) ∙ ap (λ (m : ℕ). flip (dig c 1) (pos (2 ^ m) -ℤ level (evens bs))) e)
    (ap (λ (xs : List ℕ). level (odds xs)) (word-block k c y l) ∙ ap level (evens-cons (dig c 0) bs)
    ∙ ap (λ (m : ℕ). flip (dig c 0) (pos (2 ^ m) -ℤ level (odds bs))) o)

-- ---- one word's four entries
module _
    (k u y : ℕ) (even : k % 2 ≡ 0) (few : k ≤ 6) (lu : u < 256) (l : y < 2 ^ k) {v h i j : ℕ} (ev : v ≡ element_number u (modulation_symbol k y))
    (eh : h ≡ 2 ^ (k / 2)) (ei : i ≡ byte_less h (v / 256 % 256)) (ej : j ≡ byte_less h (v / 65536 % 256)) where
  abbrev re : ℤ
  re = (modulation_symbol k y).re

  abbrev im : ℤ
  im = (modulation_symbol k y).im

  abbrev more : ℤ → ℤ
  more z = pos (2 ^ (k / 2)) -ℤ z

  small : (nat_abs re ≤ 7) × (nat_abs im ≤ 7)
  small = symbol-small 3 k y few

  half : 2 ^ (k / 2) ≤ 8
  half = pow_mono {j = 3} (omega arith)

  more-small : (z : ℤ) → nat_abs z ≤ 7 → nat_abs (more z) ≤ 127
  more-small z s = omega (arith, half, abs-minus (pos (2 ^ (k / 2))) z)

  less-of : (z : ℤ) (b : ℕ) → nat_abs z ≤ 7 → b ≡ byte_of z → byte_less h b ≡ byte_of (more z)
  less-of z b s e = ap₂ byte_less eh e ∙ less-byte (2 ^ (k / 2)) z (omega (arith, half))

  is-i : i ≡ byte_of (more re)
  unfolding element_number
  is-i =
      ei
      ∙ less-of re (v / 256 % 256) small.0
      (ap (λ (x : ℕ). x / 256 % 256) ev
      ∙ byte-second u (byte_of re) (byte_of im) lu (byte_small re (omega (arith, small))) (byte_small im (omega (arith, small))))

  is-j : j ≡ byte_of (more im)
  unfolding element_number
  is-j =
      ej
      ∙ less-of im (v / 65536 % 256) small.1
      (ap (λ (x : ℕ). x / 65536 % 256) ev
      ∙ byte-third u (byte_of re) (byte_of im) lu (byte_small re (omega (arith, small))) (byte_small im (omega (arith, small))))

  minus-i : byte_less 0 i ≡ byte_of (neg_ℤ (more re))
  minus-i = ap (byte_less 0) is-i ∙ minus-byte (more re) (more-small re small.0)

  minus-j : byte_less 0 j ≡ byte_of (neg_ℤ (more im))
  minus-j = ap (byte_less 0) is-j ∙ minus-byte (more im) (more-small im small.1)

  block-number :
      (c : ℕ) → element_number u (modulation_symbol (k + 2) (c * 2 ^ k + y))
      ≡ three_bytes u (byte_of (flip (dig c 1) (more re))) (byte_of (flip (dig c 0) (more im)))
  unfolding element_number
  block-number c = ap (element_number u) (symbol-block k c y even l)

  pub quarter-0 : three_bytes u i j ≡ element_number u (modulation_symbol (k + 2) (0 * 2 ^ k + y))
  unfolding dig
  quarter-0 = ap₂ (three_bytes u) is-i is-j ∙ sym (block-number 0)

  pub quarter-1 : (n : ℕ) → n ≡ byte_less 0 j → three_bytes u i n ≡ element_number u (modulation_symbol (k + 2) (1 * 2 ^ k + y))
  unfolding dig
  quarter-1 n e = ap₂ (three_bytes u) is-i (e ∙ minus-j) ∙ sym (block-number 1)

  pub quarter-2 : (m : ℕ) → m ≡ byte_less 0 i → three_bytes u m j ≡ element_number u (modulation_symbol (k + 2) (2 * 2 ^ k + y))
  unfolding dig
  quarter-2 m e = ap₂ (three_bytes u) (e ∙ minus-i) is-j ∙ sym (block-number 2)

  pub quarter-3 : (m n : ℕ) → m ≡ byte_less 0 i → n ≡ byte_less 0 j → three_bytes u m n ≡ element_number u (modulation_symbol (k + 2) (3 * 2 ^ k + y))
  unfolding dig
  quarter-3 m n e f = ap₂ (three_bytes u) (e ∙ minus-i) (f ∙ minus-j) ∙ sym (block-number 3)

-- ---- four stores
module _ (n x a b c d : ℕ) (t : List ℕ) (l : x < n) (room : 4 * n ≤ length t) where
  abbrev t1 : List ℕ
  t1 = set t x a

  abbrev t2 : List ℕ
  t2 = set t1 (n + x) b

  abbrev t3 : List ℕ
  t3 = set t2 (2 * n + x) c

  abbrev t4 : List ℕ
  t4 = four_set n x a b c d t

  size1 : length t1 ≡ length t
  size1 = length-set t x a

  size2 : length t2 ≡ length t
  size2 = length-set t1 (n + x) b ∙ size1

  size3 : length t3 ≡ length t
  size3 = length-set t2 (2 * n + x) c ∙ size2

  pub four-size : length t4 ≡ length t
  four-size = length-set t3 (3 * n + x) d ∙ size3

  pub four-other : (z : ℕ) → (z ≡ x → ⊥) → (z ≡ n + x → ⊥) → (z ≡ 2 * n + x → ⊥) → (z ≡ 3 * n + x → ⊥) → get_or t4 z 0 ≡ get_or t z 0
  four-other z e0 e1 e2 e3 =
      get_or-set_other t3 (3 * n + x) z d 0 e3 ∙ get_or-set_other t2 (2 * n + x) z c 0 e2 ∙ get_or-set_other t1 (n + x) z b 0 e1
      ∙ get_or-set_other t x z a 0 e0

  pub four-0 : get_or t4 x 0 ≡ a
  four-0 =
      get_or-set_other t3 (3 * n + x) x d 0 (λ e. omega arith) ∙ get_or-set_other t2 (2 * n + x) x c 0 (λ e. omega arith)
      ∙ get_or-set_other t1 (n + x) x b 0 (λ e. omega arith) ∙ get_or-set_same t x a 0 (omega arith)

  pub four-1 : get_or t4 (n + x) 0 ≡ b
  four-1 =
      get_or-set_other t3 (3 * n + x) (n + x) d 0 (λ e. omega arith) ∙ get_or-set_other t2 (2 * n + x) (n + x) c 0 (λ e. omega arith)
      ∙ get_or-set_same t1 (n + x) b 0 (omega (arith, size1))

  pub four-2 : get_or t4 (2 * n + x) 0 ≡ c
  four-2 = get_or-set_other t3 (3 * n + x) (2 * n + x) d 0 (λ e. omega arith) ∙ get_or-set_same t2 (2 * n + x) c 0 (omega (arith, size2))

  pub four-3 : get_or t4 (3 * n + x) 0 ≡ d
  four-3 = get_or-set_same t3 (3 * n + x) d 0 (omega (arith, size3))

-- indices fit
pub quarter-room : {k x n : ℕ} → k ≤ 6 → x < 2 ^ k → n ≡ 2 ^ k → 3 * n + x < 256
quarter-room few l e = let p : 2 ^ _ ≤ 64 = pow_mono {j = 6} few in omega arith

below-four : (A : ℕ → Type 0) → A 0 → A 1 → A 2 → A 3 → (c : ℕ) → c < 4 → A c
below-four A a0 a1 a2 a3 zero l = a0
below-four A a0 a1 a2 a3 (suc zero) l = a1
below-four A a0 a1 a2 a3 (suc (suc zero)) l = a2
below-four A a0 a1 a2 a3 (suc (suc (suc zero))) l = a3
below-four A a0 a1 a2 a3 (suc (suc (suc (suc c)))) l = absurd (omega arith)

-- ---- one word more, and all of them
module _
    {k u x n a b c d : ℕ} {t : List ℕ} (s : Widened k u x t) (en : n ≡ 2 ^ k) (l : x < 2 ^ k) (few : k ≤ 6)
    (ea : a ≡ element_number u (modulation_symbol (k + 2) (0 * 2 ^ k + x))) (eb : b ≡ element_number u (modulation_symbol (k + 2) (1 * 2 ^ k + x)))
    (ec : c ≡ element_number u (modulation_symbol (k + 2) (2 * 2 ^ k + x))) (ed : d ≡ element_number u (modulation_symbol (k + 2) (3 * 2 ^ k + x))) where
  abbrev after : List ℕ
  after = four_set n x a b c d t

  room : 4 * n ≤ length t
  room = let p : 2 ^ k ≤ 64 = pow_mono {j = 6} few in omega (arith, s.size)

  inside : x < n
  inside = omega arith

  abbrev At : ℕ → ℕ → Type 0
  At m y = get_or after (m * 2 ^ k + y) 0 ≡ element_number u (modulation_symbol (k + 2) (m * 2 ^ k + y))

  here : (m z : ℕ) {v : ℕ} → z ≡ m * 2 ^ k + x → get_or after z 0 ≡ v → v ≡ element_number u (modulation_symbol (k + 2) (m * 2 ^ k + x)) → At m x
  here m z e g f = ap (λ (i : ℕ). get_or after i 0) (sym e) ∙ g ∙ f

  at_x : (m : ℕ) → m < 4 → At m x
  at_x =
      below-four (λ (m : ℕ). At m x)
      (here 0 x (omega arith) (four-0 n x a b c d t inside room) ea)
      (here 1 (n + x) (omega arith) (four-1 n x a b c d t inside room) eb)
      (here 2 (2 * n + x) (omega arith) (four-2 n x a b c d t inside room) ec)
      (here 3 (3 * n + x) (omega arith) (four-3 n x a b c d t inside room) ed)

  apart : (m o y : ℕ) → y < x → m * 2 ^ k + y ≡ o * 2 ^ k + x → ⊥
  apart m o y ly e =
      let f : y ≡ x = sym (low m k (omega arith)) ∙ ap (λ (z : ℕ). z % 2 ^ k) e ∙ low o k l in
      omega arith

  pub widened_more : Widened k u (x + 1) after
  widened_more =
      record {
        size = four-size n x a b c d t inside room ∙ s.size;
        left = λ y f g.
            four-other n x a b c d t inside room y (λ e. omega arith) (λ e. omega arith) (λ e. omega arith) (λ e. omega arith)
            ∙ s.left y (omega arith) g;
        done = λ m y lm ly. pick m y lm ly (ℕ_discrete y x);
      }
    where
      pick : (m y : ℕ) → m < 4 → y < x + 1 → Dec (y ≡ x) → At m y
      pick m y lm ly (yes e) = rw e (at_x m lm)
      pick m y lm ly (no e) =
          let f : y < x = omega arith in
          four-other n x a b c d t inside room (m * 2 ^ k + y)
          (λ g. apart m 0 y f (omega arith)) (λ g. apart m 1 y f (omega arith)) (λ g. apart m 2 y f (omega arith)) (λ g. apart m 3 y f (omega arith))
          ∙ s.done m y lm f

-- by the bytes that the code computes
pub widened-by :
    {k u w x n h i j m o a b c d : ℕ} {t g : List ℕ} → Widened k u x t → x < 2 ^ k → k % 2 ≡ 0 → k ≤ 6 → u < 256 → w ≡ u → n ≡ 2 ^ k → h ≡ 2 ^ (k / 2)
    → i ≡ byte_less h (get_or t x 0 / 256 % 256) → j ≡ byte_less h (get_or t x 0 / 65536 % 256) → m ≡ byte_less 0 i → o ≡ byte_less 0 j
    → a ≡ three_bytes w i j → b ≡ three_bytes w i o → c ≡ three_bytes w m j → d ≡ three_bytes w m o
    → g ≡ four_set n x a b c d t → Widened k u (x + 1) g
widened-by {k} {u} {w} {x} {i = i} {j} {m} {o} s l even few lu ew en eh ei ej em eo ea eb ec ed eg =
    let ev = s.left x (omega arith) l in
    rw eg
    (widened_more s en l few
    (ea ∙ by i j ∙ quarter-0 k u x even few lu l ev eh ei ej)
    (eb ∙ by i o ∙ quarter-1 k u x even few lu l ev eh ei ej o eo)
    (ec ∙ by m j ∙ quarter-2 k u x even few lu l ev eh ei ej m em)
    (ed ∙ by m o ∙ quarter-3 k u x even few lu l ev eh ei ej m o em eo))
  where
    by : (z y : ℕ) → three_bytes w z y ≡ three_bytes u z y
    by z y = ap (λ (r : ℕ). three_bytes r z y) ew

pub widened_none : {k u : ℕ} {t : List ℕ} → Entries k u (2 ^ k) t → Widened k u 0 t
widened_none s = record { size = s.size; left = λ y f g. s.entry y g; done = λ m y lm ly. absurd (omega arith) }

pub widened-all : {k u x : ℕ} {t : List ℕ} → Widened k u x t → x ≡ 2 ^ k → Entries (k + 2) u (2 ^ (k + 2)) t
widened-all {k} {u} {x} {t} s e =
    record {
      size = s.size;
      entry = λ z l.
          let two : 2 ^ (k + 2) ≡ 2 ^ (2 + k) = ap (λ (n : ℕ). 2 ^ n) (add_comm k 2) in
          let q : z / 2 ^ k < 4 = shr_lt 2 k (omega arith) in
          let r : z % 2 ^ k < x = omega (arith, mod-lt z (pow_pos k)) in
          rw split at (s.done (z / 2 ^ k) (z % 2 ^ k) q r);
    }

-- ---- no bits, and all 256
pub entries-start : {u v : ℕ} (t : List ℕ) → length t ≡ 256 → v ≡ u → Entries 0 u (2 ^ 0) (set t 0 v)
unfolding element_number modulation_symbol bits_of evens odds level
entries-start {u} {v} t e f =
    record {
      size = length-set t 0 v ∙ e;
      entry = λ x l. let z : x ≡ 0 = omega arith in rw z (get_or-set_same t 0 v 0 (omega arith) ∙ (omega arith));
    }

pub entries-first : {q u n m : ℕ} {t : List ℕ} → Entries q u n t → m ≤ n → Entries q u m t
entries-first s l = record { size = s.size; entry = λ x h. s.entry x (omega arith) }

-- a symbol depends on its lowest bits only
pub symbol_low : (m q w : ℕ) → q ≤ m → modulation_symbol q (w % 2 ^ m) ≡ modulation_symbol q w
unfolding modulation_symbol
symbol_low m q w l = ap (λ (bs : List ℕ). record { re = level (evens bs); im = level (odds bs) }) (word_low m q w l)

-- so that entries repeat
pub entries-more :
    {q u x n : ℕ} {t : List ℕ} → Entries q u x t → n ≡ 2 ^ q → n ≤ x → x < 256 → Entries q u (x + 1) (set t x (get_or t (x - n) 0))
entries-more {q} {u} {x} {n} {t} s en l f =
    record {
      size = length-set t x (get_or t (x - n) 0) ∙ s.size;
      entry = set_more 0 (λ (i : ℕ). element_number u (modulation_symbol q i)) t x (get_or t (x - n) 0) (omega (arith, s.size)) same s.entry;
    }
  where
    same : get_or t (x - n) 0 ≡ element_number u (modulation_symbol q x)
    same =
        let p : 0 < 2 ^ q = pow_pos q in
        let e : x ≡ x - n + 2 ^ q = omega arith in
        let g : (x - n) % 2 ^ q ≡ x % 2 ^ q = sym (add-mod_right (x - n) (2 ^ q)) ∙ ap (λ (i : ℕ). i % 2 ^ q) (sym e) in
        s.entry (x - n) (omega arith)
        ∙ ap (element_number u) (sym (symbol_low q q (x - n) (omega arith)) ∙ ap (modulation_symbol q) g ∙ symbol_low q q x (omega arith))

-- ---- an index is the eight lowest bits of a word
pub entry_of : {q u : ℕ} {t : List ℕ} → Elements q u t → q ≤ 8 → (w : ℕ) → get_or t (w % 256) 0 ≡ element_number u (modulation_symbol q w)
entry_of {q} {u} s l w = s.entry (w % 256) (omega arith) ∙ ap (element_number u) (symbol_low 8 q w l)
