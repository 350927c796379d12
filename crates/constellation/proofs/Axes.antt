-- THE LAWS OF THE WAY BACK: the bits of a level one by one, and the word of a symbol's element. Assumes nothing.
use Prim.Native.Nat.{ℕ, zero, suc, ◌+◌, ◌-◌, ◌*◌, ◌/◌, ◌%◌, ◌^◌, ◌≤◌, ◌<◌}
use mathlib.Core.Path.{◌≡◌, refl, sym, ap, ap₂, ◌∙◌}
use mathlib.Core.Bool.{Bool, true, false, cond}
use mathlib.Core.List.{List, [], ◌∷◌}
use native.Mathlib.Nat.{pow-succ', add-mul, zero-mul, mul_assoc, mul_comm, mod-eq_of_lt, mod-lt, one-le-pow, pow-le-pow_right, le-mul_of_pos_right}
use native.Mathlib.Omega.{arith}
use borrow.Author.Tests.{lt-ltb, le-ltb, ltb-true, ltb-false}
use lib.Arith.{digits_lt}
use lib.Dec.{T, ltb}
use lib.IntN.{ℤ, pos, negsuc, nat_abs, ◌-ℤ◌}
use lib.ListN.{length, get_or, set, length-set}
use lib.Pow.{pow_mono, pow_pos, mod-mod-pow}
use mir.Syntax.{w8}
use Rattle.base.specs.declared.Element.{Element}
use Rattle.base.specs.declared.Pair.{Pair}
use Rattle.base.specs.Bytes.{byte_of, signed_of, element_of, pair_of}
use Rattle.base.specs.Signs.{flip, below}
use Rattle.base.proofs.Bytes.{byte-back, level-back, element-back}
use Rattle.base.proofs.Fits.{fits-abs}
use Rattle.base.proofs.Tables.{set_more}
use Rattle.modulation.specs.Symbols.{bits_of, evens, odds, level, modulation_symbol}
use Rattle.modulation.specs.Demapping.{level_bits, is_level, number, Demapped, Word, demap_of}
use Rattle.modulation.specs.Marks.{mark_of}
use Rattle.modulation.proofs.Levels.{Bits, is-level, bits-length, bits-bits}
use Rattle.modulation.proofs.Marks.{bits-told}
use Rattle.modulation.proofs.Places.{evens-bits, odds-bits, evens-length, odds-length}
use Rattle.modulation.proofs.Symbols.{demap-symbol, demap-only, symbol-small}
use Rattle.modulation.proofs.Words.{word-length, word-bits}
use Rattle.element_pairs.specs.Numbers.{element_from}
use Rattle.constellation.specs.Entries.{element_number, byte_less, Elements}
use Rattle.constellation.specs.Axis.{axis_of, byte_from, AxisEntries, Axis, word_of}
use Rattle.constellation.proofs.Bytes.{byte_small, less-byte, byte-second, byte-third}
use Rattle.constellation.proofs.Quarters.{entry_of}
use Rattle.constellation.proofs.Numbers.{symbol-levels, one-element}

-- ---- a byte and its level
pub size_of : (b : ℕ) → b < 128 → b ≡ nat_abs (signed_of b)
size_of b l = rw (lt-ltb b 128 l) refl

pub size_below : (b : ℕ) → 128 ≤ b → b < 256 → 256 - b ≡ nat_abs (signed_of b)
size_below b l h = rw (le-ltb b 128 l) (omega arith)

sign_of : (b : ℕ) → b < 256 → below (signed_of b) ≡ b / 128
sign_of b l = pick (ltb b 128) refl
  where
    pick : (t : Bool) → ltb b 128 ≡ t → below (cond t (pos b) (negsuc (255 - b))) ≡ b / 128
    pick true e = omega (arith, ltb-true b 128 e)
    pick false e = omega (arith, ltb-false b 128 e)

flipped-size : (z : ℤ) → flip (below z) z ≡ pos (nat_abs z)
flipped-size (pos n) = refl
flipped-size (negsuc n) = refl

-- a level that a byte holds comes back
signed_back : (z : ℤ) → nat_abs z ≤ 127 → signed_of (byte_of z) ≡ z
signed_back z l = byte-back z (fits-abs w8 z (omega arith)).sfits

gap-small : (m a : ℕ) → m ≤ 16 → a ≤ 16 → nat_abs (pos m -ℤ pos a) ≤ 16
gap-small m zero l h = omega arith
gap-small m (suc a) l h = pick (ltb m (suc a)) refl
  where
    pick : (t : Bool) → ltb m (suc a) ≡ t → nat_abs (cond t (negsuc (suc a - suc m)) (pos (m - suc a))) ≤ 16
    pick true e = omega (arith, ltb-true m (suc a) e)
    pick false e = omega (arith, ltb-false m (suc a) e)

-- ---- one bit more
more-digits : (m s p r : ℕ) → m * (4 * p) + (s * p + r) ≡ (4 * m + s) * p + r
more-digits m s p r =
    let a : m * (4 * p) ≡ 4 * m * p = sym (mul_assoc m 4 p) ∙ ap (λ (x : ℕ). x * p) (mul_comm m 4) in
    let b : (4 * m + s) * p ≡ 4 * m * p + s * p = add-mul (4 * m) s p in
    omega arith

module _ (k z : ℕ) (few : k ≤ 3) (lz : z < 256) (sz : nat_abs (signed_of z) ≤ 16) {y : ℕ} (ey : y ≡ byte_less (2 ^ k) (nat_abs (signed_of z))) where
  abbrev rest : ℤ
  rest = pos (2 ^ k) -ℤ pos (nat_abs (signed_of z))

  power-few : 2 ^ k ≤ 8
  power-few = pow_mono {j = 3} few

  rest-small : nat_abs rest ≤ 16
  rest-small = gap-small (2 ^ k) (nat_abs (signed_of z)) (omega (arith, power-few)) sz

  is-rest : signed_of y ≡ rest
  is-rest =
      ap signed_of (ey ∙ less-byte (2 ^ k) (pos (nat_abs (signed_of z))) (omega (arith, power-few)))
      ∙ signed_back rest (omega (arith, rest-small))

  rest_of : nat_abs (signed_of y) ≤ 16
  rest_of = rw is-rest rest-small

  step_of : (m : ℕ) → m * 4 ^ suc k + axis_of (suc k) z ≡ (4 * m + z / 128) * 4 ^ k + axis_of k y
  unfolding axis_of level_bits number
  step_of m =
      let bs = level_bits k (pos (2 ^ k) -ℤ flip (below (signed_of z)) (signed_of z)) in
      let e : bs ≡ level_bits k (signed_of y) =
      ap (level_bits k) (ap (λ (x : ℤ). pos (2 ^ k) -ℤ x) (flipped-size (signed_of z)) ∙ sym is-rest) in
      let n : length bs ≡ k = bits-length k _ in
      ap₂ (λ (p r : ℕ). m * p + r) (pow-succ' 4 k)
      (ap₂ (λ (s l : ℕ). s * 4 ^ l + number 4 bs) (sign_of z lz) n ∙ ap (λ (xs : List ℕ). z / 128 * 4 ^ k + number 4 xs) e)
      ∙ more-digits m (z / 128) (4 ^ k) (number 4 (level_bits k (signed_of y)))

-- ---- the loop over a level's bits
number-four : (bs : List ℕ) → Bits bs → number 4 bs < 4 ^ length bs
unfolding number Bits
number-four [] ok = omega arith
number-four (b ∷ bs) ok = rw pow-succ' (digits_lt {q = b} {m = 4} (omega (arith, ok.0)) (number-four bs ok.1))

axis-small : (n b : ℕ) → n ≤ 4 → axis_of n b < 256
unfolding axis_of
axis-small n b few =
    let p : 4 ^ n ≤ 4 ^ 4 = pow-le-pow_right (omega arith) few in
    let e : 4 ^ length (level_bits n (signed_of b)) ≡ 4 ^ n = ap (λ (k : ℕ). 4 ^ k) (bits-length n (signed_of b)) in
    omega (arith, number-four (level_bits n (signed_of b)) (bits-bits n (signed_of b)))

-- the last k bits are still to come
pub record AxisPart (n b m z k : ℕ) : Type 0 where
  pub few : k ≤ 4
  pub byte : z < 256
  pub small : nat_abs (signed_of z) ≤ 16
  pub digits : m * 4 ^ k + axis_of k z ≡ axis_of n b

pub part-start : (n b : ℕ) → n ≤ 4 → b < 256 → nat_abs (signed_of b) ≤ 16 → AxisPart n b 0 b n
part-start n b few l s = record { few = few; byte = l; small = s; digits = omega (arith, zero-mul (4 ^ n)) }

pub part_step :
    {n b m z k h a y : ℕ} → AxisPart n b m z k → 0 < k → h ≡ 2 ^ (k - 1) → a ≡ nat_abs (signed_of z) → y ≡ byte_less h a
    → AxisPart n b (4 * m + z / 128) y (k - 1)
part_step {k = zero} s some eh ea ey = absurd (omega arith)
part_step {m = m} {z = z} {k = suc k} {y = y} s some eh ea ey =
    let e : suc k - 1 ≡ k = omega arith in
    let f : k ≤ 3 = omega (arith, s.few) in
    let g : y ≡ byte_less (2 ^ k) (nat_abs (signed_of z)) = ey ∙ ap₂ byte_less (eh ∙ ap (λ (x : ℕ). 2 ^ x) e) ea in
    rw e
    (record {
      few = omega arith;
      byte = omega (arith, ey);
      small = rest_of k z f s.byte s.small g;
      digits = sym (step_of k z f s.byte s.small g m) ∙ s.digits;
    })

pub part-few : {n b m z k : ℕ} → AxisPart n b m z k → n ≤ 4 → m < 256
part-few {n} {b} {m} {z} {k} s few = omega (arith, axis-small n b few, s.digits, le-mul_of_pos_right m (one-le-pow k 4 (omega arith)))

pub part_end : {n b m z k : ℕ} → AxisPart n b m z k → k ≡ 0 → m ≡ axis_of n b
unfolding axis_of level_bits number
part_end {n} {b} {m} {z} {k} s e =
    let d : m * 4 ^ 0 + axis_of 0 z ≡ axis_of n b = rw e at s.digits in
    omega arith

-- ---- the table
pub from-above : (x : ℕ) → x < 16 → (x ≡ byte_from x) × (x < 256) × (nat_abs (signed_of x) ≤ 16)
from-above x l = (sym (rw (lt-ltb x 16 l) refl), omega arith, omega (arith, size_of x (omega arith)))

pub from-below : (x : ℕ) → 16 ≤ x → x < 32 → (x + 224 ≡ byte_from x) × (x + 224 < 256) × (nat_abs (signed_of (x + 224)) ≤ 16)
from-below x l h = (sym (rw (le-ltb x 16 l) refl), omega arith, omega (arith, size_below (x + 224) (omega arith) (omega arith)))

five-back : (z : ℤ) → nat_abs z ≤ 15 → byte_from (byte_of z % 32) ≡ byte_of z
five-back (pos n) l =
    let e : n % 32 ≡ n = omega arith in
    rw (e, lt-ltb n 16 (omega arith)) refl
five-back (negsuc n) l =
    let e : (256 - suc n) % 32 ≡ 32 - suc n = omega arith in
    rw (e, le-ltb (32 - suc n) 16 (omega arith)) (omega arith)

pub axis-none : (n : ℕ) {d : List ℕ} → length d ≡ 32 → AxisEntries n 0 d
axis-none n e = record { size = e; entry = λ x l. absurd (omega arith) }

pub axis-more : {n x v : ℕ} {d : List ℕ} → AxisEntries n x d → x < 32 → v ≡ axis_of n (byte_from x) → AxisEntries n (x + 1) (set d x v)
axis-more {n} {x} {v} {d} s l e =
    record {
      size = length-set d x v ∙ s.size;
      entry = set_more 0 (λ (i : ℕ). axis_of n (byte_from i)) d x v (omega (arith, s.size)) e s.entry;
    }

pub axis-all : {n x : ℕ} {d : List ℕ} → AxisEntries n x d → 32 ≤ x → AxisEntries n 32 d
axis-all s l = record { size = s.size; entry = λ x h. s.entry x (omega arith) }

axis-at :
    (q : ℕ) {d : List ℕ} → Axis q d → (z : ℤ) → nat_abs z ≤ 15 → (x : ℕ) → x % 256 ≡ byte_of z
    → get_or d (x % 32) 0 ≡ number 4 (level_bits (q / 2) z)
unfolding axis_of
axis-at q {d} s z l x e =
    let f : x % 32 ≡ byte_of z % 32 = sym (mod-mod-pow x 3 5) ∙ ap (λ (y : ℕ). y % 32) e in
    s.entry (x % 32) (omega arith)
    ∙ ap (λ (y : ℕ). axis_of (q / 2) (byte_from y)) f
    ∙ ap (axis_of (q / 2)) (five-back z l)
    ∙ ap (λ (y : ℤ). number 4 (level_bits (q / 2) y)) (signed_back z (omega arith))

-- ---- words of symbols
so : (t : Bool) → T t → t ≡ true
so true h = refl
so false h = absurd h

level-true : (n : ℕ) (bs : List ℕ) → length bs ≡ n → Bits bs → is_level n (level bs) ≡ true
level-true n bs e ok = rw (sym e) (so (is_level (length bs) (level bs)) (is-level bs ok))

mark-is : (n : ℕ) (z : ℤ) → is_level n z ≡ true → number 4 (level_bits n z) ≡ mark_of n z
unfolding mark_of
mark-is n z e = rw e refl

word_same : (v w : ℕ) → ◌≡◌ {A = Demapped} (Word v) (Word w) → v ≡ w
word_same v w e = cc

byte-is : (u : ℕ) (p : Pair) → (element_of u p).byte ≡ u
unfolding element_of
byte-is u p = refl

number_of : (u v : ℕ) → v < 16777216 → (element_from v).byte ≡ u → v ≡ element_number u (pair_of (element_from v))
unfolding element_number pair_of element_from
number_of u v l e =
    let a = level-back (v / 256 % 256) (omega arith) in
    let b = level-back (v / 65536 % 256) (omega arith) in
    rw (a, b) (omega arith)

module _ {q : ℕ} {d : List ℕ} (s : Axis q d) (even : q % 2 ≡ 0) (few : q ≤ 8) where
  -- THE LAW: the word of a symbol comes back from its element
  pub word_back : (u x v : ℕ) → u < 256 → v ≡ element_number u (modulation_symbol q x) → word_of d v ≡ x % 2 ^ q
  unfolding element_number modulation_symbol
  word_back u x v lu ev =
      let bs = bits_of q x in
      let n = word-length q x in
      let y = level (evens bs) in
      let z = level (odds bs) in
      let l = symbol-small 4 q x few in
      let ly = byte_small y (omega (arith, l)) in
      let lz = byte_small z (omega (arith, l)) in
      let ky = level-true (q / 2) (evens bs) (omega (arith, evens-length bs)) (evens-bits bs (word-bits q x)) in
      let kz = level-true (q / 2) (odds bs) (omega (arith, odds-length bs)) (odds-bits bs (word-bits q x)) in
      let i = axis-at q s y l.0 (v / 256) (ap (λ (a : ℕ). a / 256 % 256) ev ∙ byte-second u (byte_of y) (byte_of z) lu ly lz) in
      let j = axis-at q s z l.1 (v / 65536) (ap (λ (a : ℕ). a / 65536 % 256) ev ∙ byte-third u (byte_of y) (byte_of z) lu ly lz) in
      word_same (word_of d v) (x % 2 ^ q)
      (sym (bits-told q even y z ky kz _ _ (i ∙ mark-is (q / 2) y ky) (j ∙ mark-is (q / 2) z kz)).0 ∙ demap-symbol q x)

  module _ {u v : ℕ} {t : List ℕ} (e : Elements q u t) (some : 2 ≤ q) (lu : u < 256) where
    -- an element that is the entry of its word is that symbol's
    pub element-known :
        v ≡ get_or t (word_of d v % 256) 0
        → ((element_from v).byte ≡ u) × (demap_of q (pair_of (element_from v)) ≡ Word (word_of d v)) × (word_of d v < 2 ^ q)
    element-known h =
        let w = word_of d v in
        let p = modulation_symbol q w in
        let o = symbol-levels q w some few in
        let n : v ≡ element_number u p = h ∙ entry_of e few w in
        let b : w ≡ w % 2 ^ q = word_back u w v lu n in
        let f = one-element u lu p o n in (
          ap (λ (x : Element). x.byte) f ∙ byte-is u p,
          ap (λ (x : Element). demap_of q (pair_of x)) f
              ∙ ap (demap_of q) (element-back u p (o.small-re, o.small-im)) ∙ demap-symbol q w ∙ ap Word (sym b),
          omega (arith, mod-lt w (pow_pos q)),
        )

    -- and every symbol's is
    pub element-found :
        (w : ℕ) → v < 16777216 → (element_from v).byte ≡ u → demap_of q (pair_of (element_from v)) ≡ Word w
        → (v ≡ get_or t (word_of d v % 256) 0) × (word_of d v ≡ w)
    element-found w l eu h =
        let k = demap-only q (pair_of (element_from v)) w h in
        let n : v ≡ element_number u (modulation_symbol q w) = number_of u v l eu ∙ ap (element_number u) (sym k.0) in
        let b : word_of d v ≡ w = word_back u w v lu n ∙ mod-eq_of_lt k.1 in
        (n ∙ sym (entry_of e few w) ∙ ap (λ (x : ℕ). get_or t (x % 256) 0) (sym b), b)
