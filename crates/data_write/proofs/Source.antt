-- THE LAWS OF THE SOURCE: symbols from bits that were taken, and their elements from the order's table, by index. Assumes nothing.
use Prim.Native.Nat.{ℕ, ◌+◌, ◌-◌, ◌*◌, ◌/◌, ◌%◌, ◌^◌, ◌≤◌, ◌<◌}
use mathlib.Core.Path.{◌≡◌, refl, sym, ap, ap₂, ◌∙◌, subst}
use mathlib.Core.Bool.{Bool}
use mathlib.Core.List.{List}
use native.Mathlib.Nat.{mul-add, mul_comm, zero-mul}
use native.Mathlib.Omega.{arith}
use Rattle.base.proofs.Rows.{at-div, at-mod}
use Rattle.base.specs.declared.Pair.{Pair}
use Rattle.base.specs.Bits.{bit_at}
use Rattle.base.specs.Counts.{cnt}
use Rattle.gold.specs.declared.Registers.{Registers}
use Rattle.gold.proofs.Window.{Holds}
use Rattle.modulation.specs.Symbols.{Order, modulation_symbol}
use Rattle.codeword.specs.declared.ScrambledBits.{ScrambledBits}
use Rattle.codeword.specs.Streams.{outputs, symbols_of}
use Rattle.codeword.specs.Bits48.{scrambled_bits, Standing, Groups, CanTake}
use Rattle.codeword.proofs.Laws.{scrambled-lt}
use Rattle.codeword.proofs.Orders.{bits-early}
use Rattle.codeword.proofs.Taking.{last-held, before-held, symbol-is}
use Rattle.precoding.specs.Places.{own_port, other_port, on_port, placed}
use Rattle.precoding.proofs.Ports.{unit-byte-on}
use Rattle.element_pairs.specs.Numbers.{element_from, upper}
use Rattle.constellation.specs.Pairs.{joint_of, partners_of}
use Rattle.constellation.proofs.Numbers.{number-few, own_value, pair_values, joint-low, joint-high}
use Rattle.walk.proofs.Pairs.{PairHas}
use Rattle.data_write.specs.Sent.{sent_element, TableOf, entry_of, FromTable}

-- ---- bits
-- those of c symbols after those of a
pub stands_on : (q a c b : ℕ) → a + c ≡ b → q * a + c * q ≡ q * b
stands_on q a c b e = ap (λ (x : ℕ). q * a + x) (mul_comm c q) ∙ sym (mul-add q a c) ∙ ap (λ (x : ℕ). q * x) e

pub can-take :
    {u n q j : ℕ} {bits : List ℕ} {st : ScrambledBits} {r : Registers} → Groups u n → Order q → j ≤ 16800 → Standing u bits r (q * j) st → CanTake n bits st
can-take {u} {n} {q} {j} {bits} {st} {r} g o few s =
    record { group = u; step = g; pair = r; taken = q * j; early = bits-early q o j few; standing = s }

-- the words w and x have the symbols of the indices j and j + 1
pub record SymbolsAt (q : ℕ) (bits : List ℕ) (r : Registers) (j w x : ℕ) : Type 0 where
  pub first : modulation_symbol q w ≡ symbols_of q bits r j
  pub second : modulation_symbol q x ≡ symbols_of q bits r (j + 1)

module _ (bits : List ℕ) (r : Registers) (q j : ℕ) where
  two : (i : ℕ) → scrambled_bits bits r i < 2
  two = scrambled-lt (bit_at bits) (outputs r)

  at-index : (k z : ℕ) → k ≡ j → Holds (scrambled_bits bits r) (q * k) q z → modulation_symbol q z ≡ symbols_of q bits r j
  at-index k z e h = symbol-is bits r q k z h ∙ ap (symbols_of q bits r) e

  two-held : (z : ℕ) → Holds (scrambled_bits bits r) (q * j) (q * 2) z → SymbolsAt q bits r j (z / 2 ^ q) z
  two-held z h =
      record {
        first = at-index (j + 0) (z / 2 ^ q) (omega arith) (last-held (scrambled_bits bits r) two q j 0 (z / 2 ^ q) (before-held (scrambled_bits bits r) two q j 1 z h));
        second = symbol-is bits r q (j + 1) z (last-held (scrambled_bits bits r) two q j 1 z h);
      }

  pub two-symbols : (z : ℕ) → Holds (scrambled_bits bits r) (q * j) (2 * q) z → SymbolsAt q bits r j (z / 2 ^ q) z
  two-symbols z h = two-held z (subst (λ (n : ℕ). Holds (scrambled_bits bits r) (q * j) n z) (mul_comm 2 q) h)

  module _ (z : ℕ) (h : Holds (scrambled_bits bits r) (q * j) (4 * q) z) where
    four-held : Holds (scrambled_bits bits r) (q * j) (q * 4) z
    four-held = subst (λ (n : ℕ). Holds (scrambled_bits bits r) (q * j) n z) (mul_comm 4 q) h

    three-held : Holds (scrambled_bits bits r) (q * j) (q * 3) (z / 2 ^ q)
    three-held = before-held (scrambled_bits bits r) two q j 3 z four-held

    pub first-symbols : SymbolsAt q bits r j (z / 2 ^ q / 2 ^ q / 2 ^ q) (z / 2 ^ q / 2 ^ q)
    first-symbols = two-held (z / 2 ^ q / 2 ^ q) (before-held (scrambled_bits bits r) two q j 2 (z / 2 ^ q) three-held)

    pub next-symbols : SymbolsAt q bits r (j + 2) (z / 2 ^ q) z
    next-symbols =
        let e : j + 3 ≡ j + 2 + 1 = omega arith in
        record {
          first = symbol-is bits r q (j + 2) (z / 2 ^ q) (last-held (scrambled_bits bits r) two q j 2 (z / 2 ^ q) three-held);
          second = symbol-is bits r q (j + 3) z (last-held (scrambled_bits bits r) two q j 3 z four-held) ∙ ap (symbols_of q bits r) e;
        }

-- ---- elements
pub from-table : {t : List ℕ} {w x a b v u : ℕ} → a ≡ entry_of t w → b ≡ entry_of t x → v ≡ joint_of a b → u ≡ partners_of a b → FromTable t w x v u
from-table ea eb ev eu = record { own = ev ∙ ap₂ joint_of ea eb; other = eu ∙ ap₂ partners_of ea eb }

-- by index
module _ (own : ℕ → Bool) (P T unit : ℕ) (d : ℕ → Pair) where
  at_place : (p x : ℕ) → x < T → sent_element own P T unit d (p * T + x) ≡ placed P (cnt own x / 2 % 2) unit d (cnt own x) p
  unfolding sent_element
  at_place p x l = ap₂ (λ (y z : ℕ). placed P (cnt own y / 2 % 2) unit d (cnt own y) z) (at-mod p T x l) (at-div p T x l)

  even-at :
      (j : ℕ) → j % 2 ≡ 0 → (p x : ℕ) → x < T → cnt own x ≡ j → sent_element own P T unit d (p * T + x) ≡ on_port P (j / 2 % 2) unit 0 (d j) (d (j + 1)) p
  even-at j even p x l e =
      let b : j + 1 - 2 * (j % 2) ≡ j + 1 = omega arith in
      at_place p x l
      ∙ ap (λ (k : ℕ). placed P (k / 2 % 2) unit d k p) e
      ∙ ap₂ (λ (y z : ℕ). on_port P (j / 2 % 2) unit y (d j) (d z) p) even b

  odd-at :
      (j : ℕ) → j % 2 ≡ 0 → (p x : ℕ) → x < T → cnt own x ≡ j + 1
      → sent_element own P T unit d (p * T + x) ≡ on_port P (j / 2 % 2) unit 1 (d (j + 1)) (d j) p
  odd-at j even p x l e =
      let u : (j + 1) / 2 ≡ j / 2 = omega arith in
      let o : (j + 1) % 2 ≡ 1 = omega arith in
      let b : j + 1 + 1 - 2 * ((j + 1) % 2) ≡ j = omega arith in
      at_place p x l
      ∙ ap (λ (k : ℕ). placed P (k / 2 % 2) unit d k p) e
      ∙ ap (λ (y : ℕ). on_port P (y % 2) unit ((j + 1) % 2) (d (j + 1)) (d (j + 1 + 1 - 2 * ((j + 1) % 2))) p) u
      ∙ ap₂ (λ (y z : ℕ). on_port P (j / 2 % 2) unit y (d (j + 1)) (d z) p) o b

  module _ {q : ℕ} {t : List ℕ} (s : TableOf P q unit t) (o : Order q) where
    -- THE LAW OF THE SOURCE for a pair of places
    pub pair-has :
        (j : ℕ) → j % 2 ≡ 0 → 2 ≤ P → (p gap w x : ℕ) → p + gap < T → cnt own p ≡ j → cnt own (p + gap) ≡ j + 1 → modulation_symbol q w ≡ d j
        → modulation_symbol q x ≡ d (j + 1)
        → PairHas P T (sent_element own P T unit d) j p gap (joint_of (entry_of t w) (entry_of t x)) (partners_of (entry_of t w) (entry_of t x))
    pair-has j even many p gap w x l a b ew ex =
        let v = pair_values s.table o.1 (omega arith) (unit-byte-on P unit).0 P (j / 2 % 2) unit refl many w x refl refl refl refl in
        record {
          own_first = even-at j even A p (omega arith) a ∙ ap₂ (λ (f g : Pair). on_port P (j / 2 % 2) unit 0 f g A) (sym ew) (sym ex) ∙ v.own_first;
          own-second = here A ∙ odd-at j even A (p + gap) l b ∙ ap₂ (λ (f g : Pair). on_port P (j / 2 % 2) unit 1 f g A) (sym ex) (sym ew) ∙ v.own-second;
          other-first = even-at j even B p (omega arith) a ∙ ap₂ (λ (f g : Pair). on_port P (j / 2 % 2) unit 0 f g B) (sym ew) (sym ex) ∙ v.other-first;
          other-second = here B ∙ odd-at j even B (p + gap) l b ∙ ap₂ (λ (f g : Pair). on_port P (j / 2 % 2) unit 1 f g B) (sym ex) (sym ew) ∙ v.other-second;
        }
      where
        A : ℕ
        A = own_port P (j / 2 % 2)

        B : ℕ
        B = other_port P (j / 2 % 2)

        here : (n : ℕ) → sent_element own P T unit d (n * T + p + gap) ≡ sent_element own P T unit d (n * T + (p + gap))
        here n = let e : n * T + p + gap ≡ n * T + (p + gap) = omega arith in ap (sent_element own P T unit d) e

-- and on one port
module _ (own : ℕ → Bool) (T unit : ℕ) (d : ℕ → Pair) {q : ℕ} {t : List ℕ} (s : TableOf 1 q unit t) (o : Order q) where
  pub single-has : (x j w : ℕ) → x < T → cnt own x ≡ j → modulation_symbol q w ≡ d j → sent_element own 1 T unit d x ≡ element_from (entry_of t w)
  unfolding own_port
  single-has x j w l e ew =
      let z : x ≡ 0 * T + x = omega (arith, zero-mul T) in
      ap (sent_element own 1 T unit d) z ∙ at_place own 1 T unit d 0 x l
      ∙ ap (λ (k : ℕ). placed 1 (k / 2 % 2) unit d k 0) e
      ∙ ap (λ (f : Pair). on_port 1 (j / 2 % 2) unit (j % 2) f (d (j + 1 - 2 * (j % 2))) 0) (sym ew)
      ∙ own_value s.table o.1 (omega arith) (unit-byte-on 1 unit).0 1 (j / 2 % 2) unit refl w (j % 2) (d (j + 1 - 2 * (j % 2))) refl

  small : (w : ℕ) → entry_of t w < 16777216
  small w = number-few s.table o.1 (omega arith) (unit-byte-on 1 unit).0 w

  pub double-first :
      (x j w z : ℕ) → x < T → cnt own x ≡ j → modulation_symbol q w ≡ d j → sent_element own 1 T unit d x ≡ element_from (joint_of (entry_of t w) (entry_of t z))
  double-first x j w z l e ew = single-has x j w l e ew ∙ sym (joint-low (small w) (small z))

  pub double-second :
      (x j w z : ℕ) → x < T → cnt own x ≡ j → modulation_symbol q z ≡ d j → sent_element own 1 T unit d x ≡ element_from (upper (joint_of (entry_of t w) (entry_of t z)))
  double-second x j w z l e ez = single-has x j z l e ez ∙ sym (joint-high (small w) (small z))
