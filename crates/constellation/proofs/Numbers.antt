-- THE LAWS OF PAIRS: levels are odd; two elements as one number, and their partners by one exclusive or. For every unit byte. Assumes
-- nothing.
use Prim.Native.Nat.{ℕ, zero, suc, ◌+◌, ◌-◌, ◌*◌, ◌/◌, ◌%◌, ◌^◌, ◌≤◌, ◌<◌}
use mathlib.Core.Path.{◌≡◌, refl, sym, ap, ◌∙◌}
use mathlib.Core.Bool.{Bool, true, false, cond}
use mathlib.Core.List.{List, [], ◌∷◌}
use native.Mathlib.Nat.{pow-succ'}
use native.Mathlib.Omega.{arith}
use borrow.Author.Tests.{ltb-true, ltb-false}
use lib.Bits.{bit_and, bit_xor, xor_shr, xor_mod, xor_zero_r, xor_add_and, xor_lt, and_high}
use lib.Dec.{ltb}
use lib.IntN.{ℤ, pos, negsuc, neg_ℤ, nat_abs, ◌-ℤ◌}
use lib.ListN.{length, get_or}
use Rattle.base.specs.declared.Element.{Element}
use Rattle.base.specs.declared.Pair.{Pair}
use Rattle.base.specs.Bytes.{byte_of, element_of}
use Rattle.base.proofs.Bytes.{element-is}
use Rattle.base.proofs.Fits.{flip-abs}
use Rattle.modulation.specs.Symbols.{bits_of, evens, odds, level, modulation_symbol}
use Rattle.modulation.proofs.Places.{evens-cons}
use Rattle.modulation.proofs.Symbols.{symbol-small}
use Rattle.precoding.specs.Matrices.{unit_byte_on}
use Rattle.precoding.specs.Places.{own_port, other_port, partner_of, on_port}
use Rattle.precoding.proofs.Ports.{on-own, on-other}
use Rattle.element_pairs.specs.Numbers.{element_from, upper}
use Rattle.constellation.specs.Entries.{three_bytes, element_number, byte_less, Elements}
use Rattle.constellation.specs.Pairs.{joint_of, minus_bits, partners_of, OddLevels, PairValues}
use Rattle.constellation.proofs.Bytes.{byte_small, minus-byte}
use Rattle.constellation.proofs.Quarters.{entry_of}

-- ---- the level of one bit or more is odd
even-less : (m : ℕ) (z : ℤ) → nat_abs z % 2 ≡ 1 → nat_abs (pos (2 * m) -ℤ z) % 2 ≡ 1
even-less m (pos zero) o = absurd (omega arith)
even-less m (negsuc n) o = omega arith
even-less m (pos (suc n)) o = pick (ltb (2 * m) (suc n)) refl
  where
    pick : (t : Bool) → ltb (2 * m) (suc n) ≡ t → nat_abs (cond t (negsuc (suc n - suc (2 * m))) (pos (2 * m - suc n))) % 2 ≡ 1
    pick true e = omega (arith, ltb-true (2 * m) (suc n) e)
    pick false e = omega (arith, ltb-false (2 * m) (suc n) e)

level-odd : (b : ℕ) (bs : List ℕ) → nat_abs (level (b ∷ bs)) % 2 ≡ 1
unfolding level
level-odd b [] = rw flip-abs (omega arith)
level-odd b (c ∷ bs) = rw (flip-abs, pow-succ') (even-less (2 ^ length bs) (level (c ∷ bs)) (level-odd c bs))

pub symbol-odd : (q w : ℕ) → 2 ≤ q → (nat_abs (modulation_symbol q w).re % 2 ≡ 1) × (nat_abs (modulation_symbol q w).im % 2 ≡ 1)
unfolding modulation_symbol bits_of evens odds
symbol-odd zero w l = absurd (omega arith)
symbol-odd (suc zero) w l = absurd (omega arith)
symbol-odd (suc (suc q)) w l = (level-odd _ _, rw evens-cons (level-odd _ _))

pub symbol-levels : (q w : ℕ) → 2 ≤ q → q ≤ 8 → OddLevels (modulation_symbol q w)
symbol-levels q w some few =
    let s = symbol-small 4 q w few in
    let o = symbol-odd q w some in
    record { small-re = omega (arith, s); small-im = omega (arith, s); odd-re = o.0; odd-im = o.1 }

-- ---- minus an odd level
byte-odd : (z : ℤ) → nat_abs z ≤ 127 → nat_abs z % 2 ≡ 1 → byte_of z % 2 ≡ 1
byte-odd (pos n) l o = o
byte-odd (negsuc n) l o = omega arith

exchanged : (b : ℕ) → b < 256 → b % 2 ≡ 1 → bit_xor b 254 ≡ byte_less 0 b
exchanged b l o =
    let a : bit_and b 254 ≡ b / 2 % 128 * 2 = and_high b 7 1 in
    let x : bit_xor b 254 + bit_and b 254 * 2 ≡ b + 254 = xor_add_and b 254 in
    let h : b / 2 % 128 ≡ b / 2 = omega arith in
    omega arith

minus-odd : (z : ℤ) → nat_abs z ≤ 127 → nat_abs z % 2 ≡ 1 → bit_xor (byte_of z) 254 ≡ byte_of (neg_ℤ z)
minus-odd z l o = exchanged (byte_of z) (byte_small z l) (byte-odd z l o) ∙ minus-byte z l

-- ---- a byte of an exclusive or
byte-xor : (v c k : ℕ) → bit_xor v c / 2 ^ k % 256 ≡ bit_xor (v / 2 ^ k % 256) (c / 2 ^ k % 256)
byte-xor v c k = ap (λ (x : ℕ). x % 256) (xor_shr v c k) ∙ xor_mod (v / 2 ^ k) (c / 2 ^ k) 8

-- ---- elements
-- one
module _ (u : ℕ) (lu : u < 256) (d : Pair) (o : OddLevels d) {a : ℕ} (ea : a ≡ element_number u d) where
  bytes : (a ≡ three_bytes u (byte_of d.re) (byte_of d.im)) × (byte_of d.re < 256) × (byte_of d.im < 256)
  unfolding element_number
  bytes = (ea, byte_small d.re o.small-re, byte_small d.im o.small-im)

  pub one-few : a < 16777216
  one-few = omega (arith, bytes)

  pub one-element : element_from a ≡ element_of u d
  unfolding element_from element_of
  one-element = element-is (omega (arith, bytes)) (omega (arith, bytes)) (omega (arith, bytes))

-- two as one number
joint-few : (a b : ℕ) → a < 16777216 → b < 16777216 → joint_of a b < 281474976710656
joint-few a b la lb = omega arith

module _ {a b : ℕ} (la : a < 16777216) (lb : b < 16777216) where
  pair-few : (joint_of a b < 281474976710656) × (partners_of a b < 281474976710656)
  pair-few = (joint-few a b la lb, xor_lt 48 (joint_of b a) minus_bits (joint-few b a lb la) (omega arith))

  pub joint-low : element_from (joint_of a b) ≡ element_from a
  unfolding element_from
  joint-low = element-is (omega arith) (omega arith) (omega arith)

  pub joint-high : element_from (upper (joint_of a b)) ≡ element_from b
  joint-high = let h : upper (joint_of a b) ≡ b = omega arith in ap element_from h

-- an exclusive or, byte by byte
xor-element :
    (v c : ℕ)
    → element_from (bit_xor v c)
    ≡ record {
      byte = bit_xor (element_from v).byte (c % 256);
      i = bit_xor (element_from v).i (c / 256 % 256);
      j = bit_xor (element_from v).j (c / 65536 % 256);
    }
unfolding element_from
xor-element v c = element-is (xor_mod v c 8) (byte-xor v c 8) (byte-xor v c 16)

module _
    (u : ℕ) (lu : u < 256) (d e : Pair) (od : OddLevels d) (oe : OddLevels e) {a b : ℕ} (ea : a ≡ element_number u d)
    (eb : b ≡ element_number u e) where
  la : a < 16777216
  la = one-few u lu d od ea

  lb : b < 16777216
  lb = one-few u lu e oe eb

  pub joint-first : element_from (joint_of a b) ≡ element_of u d
  joint-first = joint-low la lb ∙ one-element u lu d od ea

  pub joint-second : element_from (upper (joint_of a b)) ≡ element_of u e
  joint-second = joint-high la lb ∙ one-element u lu e oe eb

  -- minus the conjugate of e
  pub partners-first : element_from (partners_of a b) ≡ element_of u (partner_of 0 e)
  unfolding element_of partner_of
  partners-first =
      xor-element (joint_of b a) minus_bits
      ∙ ap (λ (x : Element). record { byte = bit_xor x.byte 0; i = bit_xor x.i 254; j = bit_xor x.j 0 })
      (joint-low lb la ∙ one-element u lu e oe eb)
      ∙ element-is (xor_zero_r u) (minus-odd e.re oe.small-re oe.odd-re) (xor_zero_r (byte_of e.im))

  -- the conjugate of d
  pub partners-second : element_from (upper (partners_of a b)) ≡ element_of u (partner_of 1 d)
  unfolding element_of partner_of
  partners-second =
      ap element_from (xor_shr (joint_of b a) minus_bits 24)
      ∙ xor-element (upper (joint_of b a)) (upper minus_bits)
      ∙ ap (λ (x : Element). record { byte = bit_xor x.byte 0; i = bit_xor x.i 0; j = bit_xor x.j 254 })
      (joint-high lb la ∙ one-element u lu d od ea)
      ∙ element-is (xor_zero_r u) (xor_zero_r (byte_of d.re)) (minus-odd d.im od.small-im od.odd-im)

-- ---- in a table of an order, for the words of two symbols
other-apart : (P port_pair : ℕ) → 2 ≤ P → other_port P port_pair ≡ own_port P port_pair → ⊥
unfolding other_port
other-apart P port_pair many e = omega arith

module _ {q u : ℕ} {t : List ℕ} (s : Elements q u t) (some : 2 ≤ q) (few : q ≤ 8) (lu : u < 256) where
  pub number-few : (w : ℕ) → get_or t (w % 256) 0 < 16777216
  number-few w = one-few u lu (modulation_symbol q w) (symbol-levels q w some few) (entry_of s few w)

  module _ (P port_pair unit : ℕ) (on : u ≡ unit_byte_on P unit) where
    -- a place's own symbol, beside any other
    pub own_value : (w odd : ℕ) (f : Pair) {v : ℕ} → v ≡ get_or t (w % 256) 0 → on_port P port_pair unit odd (modulation_symbol q w) f (own_port P port_pair) ≡ element_from v
    own_value w odd f ev =
        on-own P port_pair unit odd (modulation_symbol q w) f (own_port P port_pair) refl
        ∙ ap (λ (y : ℕ). element_of y (modulation_symbol q w)) (sym on)
        ∙ sym (one-element u lu (modulation_symbol q w) (symbol-levels q w some few) (ev ∙ entry_of s few w))

    -- THE LAW OF PAIRS
    module _ (many : 2 ≤ P) (w x : ℕ) {a b : ℕ} (ea : a ≡ get_or t (w % 256) 0) (eb : b ≡ get_or t (x % 256) 0) where
      abbrev d : Pair
      d = modulation_symbol q w

      abbrev e : Pair
      e = modulation_symbol q x

      od : OddLevels d
      od = symbol-levels q w some few

      oe : OddLevels e
      oe = symbol-levels q x some few

      by : {y : Element} (f : Pair) → y ≡ element_of u f → element_of (unit_byte_on P unit) f ≡ y
      by f h = ap (λ (y : ℕ). element_of y f) (sym on) ∙ sym h

      pub pair_values : {v y : ℕ} → v ≡ joint_of a b → y ≡ partners_of a b → PairValues P port_pair unit d e v y
      pair_values ev ey =
          let na = ea ∙ entry_of s few w in
          let nb = eb ∙ entry_of s few x in
          let n = other-apart P port_pair many in
          let l = pair-few (one-few u lu d od na) (one-few u lu e oe nb) in
          rw (ev, ey)
          (record {
            own_first = on-own P port_pair unit 0 d e (own_port P port_pair) refl ∙ by d (joint-first u lu d e od oe na nb);
            own-second = on-own P port_pair unit 1 e d (own_port P port_pair) refl ∙ by e (joint-second u lu d e od oe na nb);
            other-first = on-other P port_pair unit 0 d e (other_port P port_pair) n refl ∙ by (partner_of 0 e) (partners-first u lu d e od oe na nb);
            other-second = on-other P port_pair unit 1 e d (other_port P port_pair) n refl ∙ by (partner_of 1 d) (partners-second u lu d e od oe na nb);
            own-few = l.0;
            other-few = l.1;
          })
