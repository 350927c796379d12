-- A word and the count of its bits that are left: bits and symbols taken out of it, and 48 bits more below them, whatever the order. Assumes
-- nothing.
use mathlib.Core.Path.{◌≡◌, sym, ap, ap₂, ◌∙◌}
use mathlib.Core.List.{List}
use Prim.Native.Nat.{ℕ, ◌+◌, ◌-◌, ◌*◌, ◌/◌, ◌%◌, ◌^◌, ◌<◌, ◌≤◌}
use native.Mathlib.Nat.{mul-add, mul-one, mul_assoc, mul-sub, mul-le-mul_left, lt_of_mul-lt-mul_left}
use native.Mathlib.Omega.{arith}
use lib.Pow.{high, low, mod-pow-add, mod-mod-pow}
use Rattle.base.specs.Bits.{bit_at}
use Rattle.gold.specs.declared.Registers.{Registers}
use Rattle.gold.specs.Sequence.{binary}
use Rattle.gold.proofs.Binary.{binary-split, binary-lt}
use Rattle.gold.proofs.Window.{Holds, cut}
use Rattle.modulation.specs.Symbols.{modulation_symbol}
use Rattle.codeword.specs.declared.Rest.{Rest}
use Rattle.codeword.specs.declared.ScrambledBits.{ScrambledBits}
use Rattle.codeword.specs.Codewords.{data_symbol}
use Rattle.codeword.specs.Streams.{outputs, symbols_of}
use Rattle.codeword.specs.Bits48.{scrambled_bits, Next48, WordReady, Standing, Groups, CanTake, with_rest, TakesRest}
use Rattle.codeword.proofs.Streams.{symbol_low}
use Rattle.codeword.proofs.Laws.{scrambled-lt}

-- ---- bits of any sequence that a number holds
module _ (x : ℕ → ℕ) (two : (i : ℕ) → x i < 2) where
  itself : (k n z : ℕ) → Holds x k n (z / 1) → Holds x k n z
  itself k n z h = ap (λ (v : ℕ). v % 2 ^ n) {x = z} {y = z / 1} (omega arith) ∙ h

  -- the first m of them, and the others
  pub first-held : (k n z m : ℕ) → m ≤ n → Holds x k n z → Holds x k m (z / 2 ^ (n - m))
  first-held k n z m le h =
      cut x two k n z h 0 m (n - m) (omega arith) ∙ ap (λ (i : ℕ). binary x i m) {x = k + 0} {y = k} (omega arith)

  pub others-held : (k n z m : ℕ) → m ≤ n → Holds x k n z → Holds x (k + m) (n - m) z
  others-held k n z m le h = itself (k + m) (n - m) z (cut x two k n z h m (n - m) 0 (omega arith))

  -- 48 more below at most 16
  pub filled-up : (k n z v : ℕ) → n ≤ 16 → Holds x k n z → v ≡ binary x (k + n) 48 → Holds x k (n + 48) (z % 2 ^ 16 * 2 ^ 48 + v)
  filled-up k n z v few h e =
      let less : v < 2 ^ 48 = rw e (binary-lt x two (k + n) 48) in
      let y = z % 2 ^ 16 * 2 ^ 48 + v in
      let f : y / 2 ^ 48 ≡ z % 2 ^ 16 = high (z % 2 ^ 16) 48 less in
      let g : y % 2 ^ 48 ≡ v = low (z % 2 ^ 16) 48 less in
      let m : 16 ≡ 16 - n + n = omega arith in
      mod-pow-add y n 48
      ∙ (λ t.
      (ap (λ (u : ℕ). u % 2 ^ n) f ∙ ap (λ (i : ℕ). z % 2 ^ i % 2 ^ n) m ∙ mod-mod-pow z (16 - n) n ∙ h) t * 2 ^ 48 + (g ∙ e) t)
      ∙ sym (binary-split x k n 48)

  -- c + 1 groups of q bits, the first of them group j: the last is in the q lowest bits, and those before it above these
  pub last-held : (q j c z : ℕ) → Holds x (q * j) (q * (c + 1)) z → Holds x (q * (j + c)) q z
  last-held q j c z h =
      let e : q * (c + 1) ≡ q * c + q = mul-add q c 1 ∙ ap (λ (i : ℕ). q * c + i) (mul-one q) in
      itself (q * (j + c)) q z
      (cut x two (q * j) (q * (c + 1)) z h (q * c) q 0 (omega arith) ∙ ap (λ (i : ℕ). binary x i q) (sym (mul-add q j c)))

  pub before-held : (q j c z : ℕ) → Holds x (q * j) (q * (c + 1)) z → Holds x (q * j) (q * c) (z / 2 ^ q)
  before-held q j c z h =
      let e : q * (c + 1) ≡ q * c + q = mul-add q c 1 ∙ ap (λ (i : ℕ). q * c + i) (mul-one q) in
      cut x two (q * j) (q * (c + 1)) z h 0 (q * c) q (omega arith) ∙ ap (λ (i : ℕ). binary x i (q * c)) {x = q * j + 0} {y = q * j} (omega arith)

  -- they are in any number that has as many low bits
  pub low_held : (k n z m : ℕ) → n ≤ m → Holds x k n z → Holds x k n (z % 2 ^ m)
  low_held k n z m le h =
      let e : m ≡ m - n + n = omega arith in
      ap (λ (i : ℕ). z % 2 ^ i % 2 ^ n) e ∙ mod-mod-pow z (m - n) n ∙ h

-- where a word is whole groups of u bits and fewer than c + 1 groups are left, at most c are
pub few-left : (u w i k left c : ℕ) → u * w ≡ 48 → u * i + left ≡ 48 * (k + 1) → left < u * (c + 1) → left ≤ u * c
few-left u w i k left c e t less =
    let f : 48 * (k + 1) ≡ u * (w * (k + 1)) = ap (λ (v : ℕ). v * (k + 1)) (sym e) ∙ mul_assoc u w (k + 1) in
    let g : left ≡ u * (w * (k + 1) - i) = rest (u * i) left (u * (w * (k + 1))) (t ∙ f) ∙ sym (mul-sub u (w * (k + 1)) i) in
    let d : w * (k + 1) - i < c + 1 = lt_of_mul-lt-mul_left u (rw g at less) in
    let m : u * (w * (k + 1) - i) ≤ u * c = mul-le-mul_left u (omega arith) in
    omega arith
  where
    rest : (a b c : ℕ) → a + b ≡ c → b ≡ c - a
    rest a b c e = omega arith

-- ---- the symbol of bits that were taken
pub symbol-is : (bits : List ℕ) (r : Registers) (q j z : ℕ) → Holds (scrambled_bits bits r) (q * j) q z → modulation_symbol q z ≡ symbols_of q bits r j
unfolding symbols_of data_symbol
symbol-is bits r q j z h = sym (symbol_low q z) ∙ ap (modulation_symbol q) h

-- ---- the word and the state
module _ {bits : List ℕ} {r : Registers} {n word left : ℕ} {st : ScrambledBits} (y : WordReady bits r n st word left) where
  bit : (i : ℕ) → scrambled_bits bits r i < 2
  bit = scrambled-lt (bit_at bits) (outputs r)

  -- m bits taken
  pub taken-bits : (m : ℕ) → m ≤ left → Holds (scrambled_bits bits r) n m (word / 2 ^ (left - m))
  taken-bits m le = first-held (scrambled_bits bits r) bit n left word m le y.held

  pub ready-less : (m : ℕ) → m ≤ left → WordReady bits r (n + m) st word (left - m)
  ready-less m le = record {
    number = y.number;
    due = y.due;
    taken = omega (arith, y.taken);
    held = others-held (scrambled_bits bits r) bit n left word m le y.held;
  }

  -- 48 more
  pub ready-more : (v : ℕ) (st' : ScrambledBits) → left ≤ 16 → Next48 bits st v st' → WordReady bits r n st' (word % 2 ^ 16 * 2 ^ 48 + v) (left + 48)
  ready-more v st' few next =
      let g = next.goes r y.number y.due in
      record {
        number = y.number + 1;
        due = g.1;
        taken = omega (arith, y.taken);
        held =
            filled-up (scrambled_bits bits r) bit n left word v few y.held (g.0 ∙ ap (λ (i : ℕ). binary (scrambled_bits bits r) i 48) (sym y.taken));
      }

  -- what `next48` needs
  pub ready-early : n ≤ 2 ^ 32 → left ≤ 48 → st.at ≤ 2 ^ 32
  ready-early few most = omega (arith, y.taken, y.due.byte)

-- ---- the word and the count outside the state: they are the state's as if they were in it
module _ (st : ScrambledBits) (h : Rest) {bits : List ℕ} {r : Registers} {k : ℕ} where
  rest_in : WordReady bits r k st h.word h.left → WordReady bits r k (with_rest st h) h.word h.left
  rest_in y = let d = y.due in record { number = y.number; due = record { pair = d.pair; byte = d.byte; last = d.last }; taken = y.taken; held = y.held }

  rest_out : {u : ℕ} → Standing u bits r k (with_rest st h) → WordReady bits r k st h.word h.left
  rest_out s =
      let y = s.ready in
      let d = y.due in
      record { number = y.number; due = record { pair = d.pair; byte = d.byte; last = d.last }; taken = y.taken; held = y.held }

-- n bits out of m
takes_of :
    {n m w : ℕ} {bits : List ℕ} {st' : ScrambledBits} (st : ScrambledBits) (h : Rest) → n ≤ m → m ≤ n + 48
    → ((u : ℕ) (r : Registers) (k : ℕ) → Groups u n → Standing u bits r k (with_rest st h) → WordReady bits r k st' w m)
    → TakesRest n bits st h st' (record { word = w; left = m - n })
takes_of {n} {m} {w} {st' = st'} st h enough most f =
    let x : Rest = record { word = w; left = m - n } in
    record {
      takes =
          record {
            goes = λ u r k g s.
                let y = f u r k g s in (
                  taken-bits y n enough,
                  record {
                    ready = rest_in st' x (ready-less y n enough);
                    most = omega arith;
                    groups = s.groups + (g.before + 1);
                    whole = ap₂ (λ (a b : ℕ). a + b) s.whole g.size ∙ sym (mul-add u s.groups (g.before + 1));
                  },
                );
          };
      most = omega arith;
    }

-- ---- what the code does
module _ (st : ScrambledBits) (h : Rest) {n : ℕ} {bits : List ℕ} (q : CanTake n bits (with_rest st h)) where
  begun : WordReady bits q.pair q.taken st h.word h.left
  begun = rest_out st h q.standing

  few-held : h.left ≤ 48
  few-held = q.standing.most

  pub take-early : st.at ≤ 2 ^ 32
  take-early = ready-early begun q.early few-held

  pub next_small : {v : ℕ} {mid : ScrambledBits} → Next48 bits st v mid → v < 2 ^ 48
  next_small next =
      let g = next.goes q.pair begun.number begun.due in
      rw g.0 (binary-lt (scrambled_bits bits q.pair) (scrambled-lt (bit_at bits) (outputs q.pair)) (48 * (begun.number + 1)) 48)

  -- enough are left
  pub takes-left : n ≤ h.left → TakesRest n bits st h st (record { word = h.word; left = h.left - n })
  takes-left l = takes_of st h l (omega (arith, few-held)) (λ u r k g s. rest_out st h s)

  -- or 48 more are put below
  pub takes-more :
      {v w : ℕ} {mid : ScrambledBits} → h.left < n → Next48 bits st v mid → w ≡ h.word % 2 ^ 16 * 2 ^ 48 + v
      → TakesRest n bits st h mid (record { word = w; left = h.left + 48 - n })
  takes-more {v} {w} {mid} less next ew = takes_of st h (omega (arith, q.step.most)) (omega arith) (λ u r k g s. all u r k g s)
    where
      all : (u : ℕ) (r : Registers) (k : ℕ) → Groups u n → Standing u bits r k (with_rest st h) → WordReady bits r k mid w (h.left + 48)
      all u r k g s =
          let y : WordReady bits r k st h.word h.left = rest_out st h s in
          let e : u * s.groups + h.left ≡ 48 * (y.number + 1) = omega (arith, s.whole, y.taken) in
          let b : h.left < u * (g.before + 1) = omega (arith, g.size) in
          let few : h.left ≤ 16 = omega (arith, few-left u g.words s.groups y.number h.left g.before g.divides e b, g.few) in
          rw ew (ready-more y v mid few next)
