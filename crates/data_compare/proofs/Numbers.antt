-- THE TESTS OF NUMBERS: one element, two, and a pair of places on two ports. A level of n bits is odd and from -2 ^ n to 2 ^ n, so that bit 0 of
-- its byte is 1 and bits n to 7 are alike. Assumes a form of an order and a unit.
use Prim.Native.Nat.{ℕ, zero, suc, ◌+◌, ◌-◌, ◌*◌, ◌/◌, ◌%◌, ◌^◌, ◌≤◌, ◌<◌}
use mathlib.Core.Path.{◌≡◌, refl, sym, ap, ap₂, ◌∙◌, subst}
use mathlib.Core.Bool.{Bool, true, false, ◌&&◌}
use native.Mathlib.Omega.{arith}
use lib.Bits.{bit_and, bit_xor, and_mask, and_zero_r, xor_mod, xor_shr, xor_self, bit_or, and_le_r, or_mod, xor_lt}
use lib.Pow.{pow_pos}
use lib.Dec.{T, eqb}
use borrow.Author.Tests.{eq-eqb, eqb-true}
use Rattle.base.proofs.Computed.{all_below, below_at}
use Rattle.base.proofs.Tests.{both}
use Rattle.base.specs.declared.Element.{Element}
use Rattle.base.specs.Bytes.{signed_of, element_of, pair_of, byte_of}
use Rattle.base.proofs.Bytes.{level-back}
use Rattle.modulation.specs.Symbols.{level, Order}
use Rattle.modulation.specs.Demapping.{is_level, level_bits}
use Rattle.modulation.specs.Marks.{is_symbol}
use Rattle.plan.proofs.Listed.{and_left, and_right}
use Rattle.element_pairs.specs.Numbers.{element_from, upper}
use Rattle.element_pairs.proofs.Puts.{xor-none, or-none, none_or, low-three, same-two}
use Rattle.constellation.specs.Entries.{three_bytes, element_number}
use Rattle.modulation.proofs.Constellation.{word-of}
use Rattle.precoding.specs.Places.{partner_of}
use Rattle.constellation.specs.Pairs.{joint_of, minus_bits, partners_of, OddLevels}
use Rattle.constellation.proofs.Numbers.{symbol-levels, partners-first, partners-second}
use Rattle.data_compare.specs.Tests.{Own, FormOf, twice, wrong_of, sums_with, told_by}
use Rattle.data_compare.proofs.Telling.{mask_low, mask-parts, or-masked, masked-or}
use Rattle.data_compare.specs.declared.Form.{Form}
use Rattle.data_compare.specs.declared.Sums.{Sums}

-- ---- one byte
abbrev same : Bool → Bool → Bool
same true b = b
same false true = false
same false false = true

same-is : (a b : Bool) → T (same a b) → a ≡ b
same-is true true t = refl
same-is true false t = absurd t
same-is false true t = absurd t
same-is false false t = refl

abbrev bits_test : ℕ → ℕ → Bool
bits_test n b = eqb (bit_and (bit_xor b (b / 2)) (128 - 2 ^ n)) 0 && eqb (b % 2) 1

abbrev byte_test : ℕ → ℕ → Bool
byte_test n b = same (is_level n (signed_of b)) (bits_test n b)

computed : (n : ℕ) → 1 ≤ n → n ≤ 4 → T (all_below (byte_test n) 256)
unfolding is_level level_bits level
computed zero some few = absurd (omega arith)
computed (suc zero) some few = tt
computed (suc (suc zero)) some few = tt
computed (suc (suc (suc zero))) some few = tt
computed (suc (suc (suc (suc zero)))) some few = tt
computed (suc (suc (suc (suc (suc n))))) some few = absurd (omega arith)

byte-test : (n b : ℕ) → 1 ≤ n → n ≤ 4 → b < 256 → is_level n (signed_of b) ≡ bits_test n b
byte-test n b some few l = same-is (is_level n (signed_of b)) (bits_test n b) (below_at (byte_test n) 256 (computed n some few) b l)

-- ---- the lowest byte of a number
abbrev alike : ℕ → ℕ
alike n = 128 - 2 ^ n

alike-byte : (n y : ℕ) → bit_and (bit_xor y (y / 2)) (alike n) ≡ bit_and (bit_xor (y % 256) (y % 256 / 2)) (alike n)
alike-byte n y =
    let a : y % 2 ^ 7 ≡ y % 256 % 2 ^ 7 = omega arith in
    let b : y / 2 % 2 ^ 7 ≡ y % 256 / 2 % 2 ^ 7 = omega arith in
    mask_low 7 (bit_xor y (y / 2)) (bit_xor (y % 256) (y % 256 / 2)) (alike n) (omega (arith, pow_pos n))
    (xor_mod y (y / 2) 7 ∙ ap₂ bit_xor a b ∙ sym (xor_mod (y % 256) (y % 256 / 2) 7))

module _ (n : ℕ) (some : 1 ≤ n) (few : n ≤ 4) (y : ℕ) where
  level-right : bit_and (bit_xor y (y / 2)) (alike n) ≡ 0 → y % 2 ≡ 1 → is_level n (signed_of (y % 256)) ≡ true
  level-right e o =
      byte-test n (y % 256) some few (omega arith)
      ∙ both (eq-eqb _ 0 (sym (alike-byte n y) ∙ e)) (eq-eqb (y % 256 % 2) 1 (omega arith))

  level-none : is_level n (signed_of (y % 256)) ≡ true → (bit_and (bit_xor y (y / 2)) (alike n) ≡ 0) × (y % 2 ≡ 1)
  level-none k =
      let b = eqb (bit_and (bit_xor (y % 256) (y % 256 / 2)) (alike n)) 0 in
      let t = sym (byte-test n (y % 256) some few (omega arith)) ∙ k in
      let o = eqb-true (y % 256 % 2) 1 (and_right b (eqb (y % 256 % 2) 1) t) in
      (alike-byte n y ∙ eqb-true _ 0 (and_left b (eqb (y % 256 % 2) 1) t), omega arith)

ones-right : (j y c : ℕ) → bit_and (bit_xor y c) (2 ^ j - 1) ≡ 0 → y % 2 ^ j ≡ c % 2 ^ j
ones-right j y c e = xor-none (y % 2 ^ j) (c % 2 ^ j) (sym (xor_mod y c j) ∙ sym (and_mask (bit_xor y c) j) ∙ e)

ones_none : (j y c : ℕ) → y % 2 ^ j ≡ c % 2 ^ j → bit_and (bit_xor y c) (2 ^ j - 1) ≡ 0
ones_none j y c e = and_mask (bit_xor y c) j ∙ xor_mod y c j ∙ ap (λ (x : ℕ). bit_xor x (c % 2 ^ j)) e ∙ xor_self (c % 2 ^ j)

-- ---- three bytes
module _ (v a b d : ℕ) (la : a < 256) (lb : b < 256) where
  three-masked : bit_and v (three_bytes a b d) ≡ (bit_and (v / 256 / 256) d * 256 + bit_and (v / 256) b) * 256 + bit_and v a
  three-masked =
      let e : three_bytes a b d ≡ a + (b + d * 256) * 256 = omega arith in
      ap (bit_and v) e ∙ mask-parts 8 v a (b + d * 256) la ∙ ap (λ (x : ℕ). x * 256 + bit_and v a) (mask-parts 8 (v / 256) b d lb)

  three-right : bit_and v (three_bytes a b d) ≡ 0 → (bit_and v a ≡ 0) × (bit_and (v / 256) b ≡ 0) × (bit_and (v / 256 / 256) d ≡ 0)
  three-right e = (omega (arith, three-masked), omega (arith, three-masked), omega (arith, three-masked))

  three-none : bit_and v a ≡ 0 → bit_and (v / 256) b ≡ 0 → bit_and (v / 256 / 256) d ≡ 0 → bit_and v (three_bytes a b d) ≡ 0
  three-none x y z = omega (arith, three-masked)

halved : (x : ℕ) → bit_xor x (x / 2) / 256 ≡ bit_xor (x / 256) (x / 256 / 2)
halved x = let e : x / 2 / 256 ≡ x / 256 / 2 = omega arith in xor_shr x (x / 2) 8 ∙ ap (bit_xor (x / 256)) e

abbrev Clean : ℕ → ℕ → ℕ → Type 0
Clean n c x = (bit_and (bit_xor x (x / 2)) (three_bytes 0 (alike n) (alike n)) ≡ 0) × (bit_and (bit_xor x c) (three_bytes 255 1 1) ≡ 0)

-- THE LAW: for a number c whose bytes are the unit's and two odd ones
module _ (q c x : ℕ) {u : ℕ} (some : 2 ≤ q) (few : q ≤ 8) (byte : c % 256 ≡ u) (odd : c / 256 % 2 ≡ 1) (odd' : c / 256 / 256 % 2 ≡ 1) where
  abbrev n : ℕ
  n = q / 2

  second : bit_xor x (x / 2) / 256 / 256 ≡ bit_xor (x / 256 / 256) (x / 256 / 256 / 2)
  second = ap (λ (y : ℕ). y / 256) (halved x) ∙ halved (x / 256)

  fixed : bit_xor x c / 256 / 256 ≡ bit_xor (x / 256 / 256) (c / 256 / 256)
  fixed = ap (λ (y : ℕ). y / 256) (xor_shr x c 8) ∙ xor_shr (x / 256) (c / 256) 8

  third : x / 65536 ≡ x / 256 / 256
  third = omega arith

  clean-own : Clean n c x → Own q u (element_from x)
  unfolding element_from element_of pair_of is_symbol
  clean-own (s, f) =
      let a = three-right (bit_xor x (x / 2)) 0 (alike n) (alike n) (omega arith) (omega arith) s in
      let b = three-right (bit_xor x c) 255 1 1 (omega arith) (omega arith) f in
      let iu : x % 256 ≡ u = ones-right 8 x c b.0 ∙ byte in
      let oi : x / 256 % 2 ≡ 1 = ones-right 1 (x / 256) (c / 256) (rw (xor_shr x c 8) at b.1) ∙ odd in
      let oj : x / 256 / 256 % 2 ≡ 1 = ones-right 1 (x / 256 / 256) (c / 256 / 256) (rw fixed at b.2) ∙ odd' in
      let ki = level-right n (omega arith) (omega arith) (x / 256) (rw (halved x) at a.1) oi in
      let kj = level-right n (omega arith) (omega arith) (x / 256 / 256) (rw second at a.2) oj in
      rw third
      (record {
        levels =
            rw (iu, level-back (x / 256 % 256) (omega arith), level-back (x / 256 / 256 % 256) (omega arith)) refl;
        known = both ki kj;
      })

  own-clean : Own q u (element_from x) → Clean n c x
  unfolding element_from element_of pair_of is_symbol
  own-clean o =
      let iu : x % 256 ≡ c % 256 = ap (λ (e : Element). e.byte) o.levels ∙ sym byte in
      let k = rw third at o.known in
      let a = is_level n (signed_of (x / 256 % 256)) in
      let b = is_level n (signed_of (x / 256 / 256 % 256)) in
      let ki = level-none n (omega arith) (omega arith) (x / 256) (and_left a b k) in
      let kj = level-none n (omega arith) (omega arith) (x / 256 / 256) (and_right a b k) in (
        three-none (bit_xor x (x / 2)) 0 (alike n) (alike n) (omega arith) (omega arith) (and_zero_r (bit_xor x (x / 2))) (rw (halved x) ki.0) (rw second kj.0),
        three-none (bit_xor x c) 255 1 1 (omega arith) (omega arith) (ones_none 8 x c iu)
            (rw (xor_shr x c 8) (ones_none 1 (x / 256) (c / 256) (ki.1 ∙ sym odd)))
            (rw fixed (ones_none 1 (x / 256 / 256) (c / 256 / 256) (kj.1 ∙ sym odd'))),
      )

-- ---- a mask of two elements
twice-parts : (v m : ℕ) → m < 16777216 → bit_and v (twice m) ≡ bit_and (v / 16777216) m * 16777216 + bit_and v m
twice-parts v m l = mask-parts 24 v m m l

abbrev pub Both : ℕ → ℕ → ℕ → Type 0
Both q u x = Own q u (element_from x) × Own q u (element_from (upper x))

pub form-made :
    (q u : ℕ) {levels : ℕ} → Order q → levels ≡ 2 ^ (q / 2) → u < 256
    → FormOf q u (record { same = (128 - levels) * 1103806660864; fixed = u * 16777217 + 1103806660864; fixes = 1108084851199 })
form-made q u o p l = record { order = o; small = l; same = omega arith; fixed = omega arith; fixes = omega arith }

-- the fixed bytes: the unit's, and two odd ones
abbrev Fixed : ℕ → ℕ → Type 0
Fixed u c = (c % 256 ≡ u) × (c / 256 % 2 ≡ 1) × (c / 256 / 256 % 2 ≡ 1)

one-fixed : (u : ℕ) → u < 256 → Fixed u (three_bytes u 1 1)
one-fixed u l = let d : (u + 256 * 1 + 65536 * 1) / 256 ≡ 257 = omega arith in (omega arith, omega arith, omega arith)

odd-on : (y k : ℕ) → y % 2 ≡ 1 → (y + k * 2) % 2 ≡ 1
odd-on y k o = omega arith

twice-fixed : (u c : ℕ) → Fixed u c → Fixed u (twice c)
twice-fixed u c (a, b, d) =
    let e : (c + c * 16777216) / 256 ≡ c / 256 + c * 32768 * 2 = omega arith in
    let h : (c / 256 + c * 32768 * 2) / 256 ≡ c / 256 / 256 + c * 128 * 2 = omega arith in
    (omega arith, rw e (odd-on (c / 256) (c * 32768) b), rw (e, h) (odd-on (c / 256 / 256) (c * 128) d))

module _ {q u : ℕ} {f : Form} (o : FormOf q u f) where
  low-fixed : Fixed u f.fixed
  low-fixed = rw o.fixed (twice-fixed u (three_bytes u 1 1) (one-fixed u o.small))

  high-fixed : Fixed u (upper f.fixed)
  high-fixed =
      let l = o.small in
      let e : upper (twice (three_bytes u 1 1)) ≡ three_bytes u 1 1 = omega arith in
      rw (o.fixed, e) (one-fixed u o.small)

module _ {q u : ℕ} {f : Form} (o : FormOf q u f) (x : ℕ) where
  abbrev S : ℕ
  S = three_bytes 0 (128 - 2 ^ (q / 2)) (128 - 2 ^ (q / 2))

  abbrev M : ℕ
  M = three_bytes 255 1 1

  abbrev sames : ℕ
  sames = bit_xor x (x / 2)

  abbrev fixeds : ℕ
  fixeds = bit_xor x f.fixed

  sames-on : sames / 16777216 ≡ bit_xor (upper x) (upper x / 2)
  sames-on = let e : x / 2 / 16777216 ≡ x / 16777216 / 2 = omega arith in xor_shr x (x / 2) 24 ∙ ap (bit_xor (x / 16777216)) e

  fixeds-on : fixeds / 16777216 ≡ bit_xor (upper x) (upper f.fixed)
  fixeds-on = xor_shr x f.fixed 24

  parts_same : bit_and sames f.same ≡ bit_and (bit_xor (upper x) (upper x / 2)) S * 16777216 + bit_and sames S
  parts_same = ap (bit_and sames) o.same ∙ twice-parts sames S (omega arith) ∙ ap (λ (v : ℕ). bit_and v S * 16777216 + bit_and sames S) sames-on

  parts-fixed : bit_and fixeds f.fixes ≡ bit_and (bit_xor (upper x) (upper f.fixed)) M * 16777216 + bit_and fixeds M
  parts-fixed = ap (bit_and fixeds) o.fixes ∙ twice-parts fixeds M (omega arith) ∙ ap (λ (v : ℕ). bit_and v M * 16777216 + bit_and fixeds M) fixeds-on

  low-own : Clean (q / 2) f.fixed x → Own q u (element_from x)
  low-own = let b = low-fixed o in clean-own q f.fixed x o.order.1 (omega (arith, o.order.2)) b.0 b.1 b.2

  own-low : Own q u (element_from x) → Clean (q / 2) f.fixed x
  own-low = let b = low-fixed o in own-clean q f.fixed x o.order.1 (omega (arith, o.order.2)) b.0 b.1 b.2

  high-own : Clean (q / 2) (upper f.fixed) (upper x) → Own q u (element_from (upper x))
  high-own = let b = high-fixed o in clean-own q (upper f.fixed) (upper x) o.order.1 (omega (arith, o.order.2)) b.0 b.1 b.2

  own-high : Own q u (element_from (upper x)) → Clean (q / 2) (upper f.fixed) (upper x)
  own-high = let b = high-fixed o in own-clean q (upper f.fixed) (upper x) o.order.1 (omega (arith, o.order.2)) b.0 b.1 b.2

  -- ---- two elements
  pub masked-both : bit_and sames f.same ≡ 0 → bit_and fixeds f.fixes ≡ 0 → Both q u x
  masked-both a b =
      (low-own (omega (arith, parts_same), omega (arith, parts-fixed)), high-own (omega (arith, parts_same), omega (arith, parts-fixed)))

  pub both-masked : Both q u x → (bit_and sames f.same ≡ 0) × (bit_and fixeds f.fixes ≡ 0)
  both-masked (a, b) =
      let l = own-low a in let h = own-high b in (omega (arith, parts_same, l.0, h.0), omega (arith, parts-fixed, l.1, h.1))

  pub wrong-both : wrong_of f x ≡ 0 → Both q u x
  wrong-both e = let z = or-none (bit_and sames f.same) (bit_and fixeds f.fixes) e in masked-both z.0 z.1

  pub both-wrong : Both q u x → wrong_of f x ≡ 0
  both-wrong b = let z = both-masked b in none_or (bit_and sames f.same) (bit_and fixeds f.fixes) z.0 z.1

  -- ---- one
  low-wrong : wrong_of f x % 16777216 ≡ bit_or (bit_and sames S) (bit_and fixeds M)
  low-wrong =
      let a : bit_and sames f.same % 16777216 ≡ bit_and sames S = omega (arith, parts_same, and_le_r sames S) in
      let b : bit_and fixeds f.fixes % 16777216 ≡ bit_and fixeds M = omega (arith, parts-fixed, and_le_r fixeds M) in
      or_mod (bit_and sames f.same) (bit_and fixeds f.fixes) 24 ∙ (rw (a, b) refl)

  pub wrong-one : wrong_of f x % 16777216 ≡ 0 → Own q u (element_from x)
  wrong-one e = low-own (or-none (bit_and sames S) (bit_and fixeds M) (sym low-wrong ∙ e))

  pub one-wrong : Own q u (element_from x) → wrong_of f x % 16777216 ≡ 0
  one-wrong w = let z = own-low w in low-wrong ∙ none_or (bit_and sames S) (bit_and fixeds M) z.0 z.1

-- ---- a pair of places, x on its own port and y on the other
abbrev pub Partners : ℕ → ℕ → ℕ → Type 0
Partners u x y =
    (element_from y ≡ element_of u (partner_of 0 (pair_of (element_from (upper x)))))
    × (element_from (upper y) ≡ element_of u (partner_of 1 (pair_of (element_from x))))

module _ {q u : ℕ} {f : Form} (o : FormOf q u f) where
  odd-levels : (e : Element) → Own q u e → OddLevels (pair_of e)
  odd-levels e w =
      let v = word-of q (pair_of e) o.order w.known in
      subst OddLevels v.3 (symbol-levels q v.0 o.order.1 (omega (arith, o.order.2)))

  number_of : (v : ℕ) → Own q u (element_from v) → v % 16777216 ≡ element_number u (pair_of (element_from v))
  unfolding element_number element_of element_from
  number_of v w =
      let a : v % 256 ≡ u = ap (λ (e : Element). e.byte) w.levels in
      let b : v / 256 % 256 ≡ byte_of (pair_of (element_from v)).re = ap (λ (e : Element). e.i) w.levels in
      let d : v / 65536 % 256 ≡ byte_of (pair_of (element_from v)).im = ap (λ (e : Element). e.j) w.levels in
      omega (arith, low-three v, a, b, d)

  module _ (x y : ℕ) (lx : x < 281474976710656) (ly : y < 281474976710656) where
    abbrev crossed : ℕ
    crossed = partners_of (x % 16777216) (x / 16777216)

    crossed-is : Both q u x → Partners u x crossed
    crossed-is (a, b) =
        let d = pair_of (element_from x) in
        let e = pair_of (element_from (upper x)) in
        let cut : upper x % 16777216 ≡ upper x = omega arith in
        let na = number_of x a in
        let nb = sym cut ∙ number_of (upper x) b in
        let od = odd-levels (element_from x) a in
        let oe = odd-levels (element_from (upper x)) b in
        (partners-first u o.small d e od oe na nb, partners-second u o.small d e od oe na nb)

    partners-told : Both q u x → Partners u x y → bit_xor y crossed ≡ 0
    partners-told w (a, b) =
        let c = crossed-is w in
        let few : crossed < 281474976710656 = xor_lt 48 (joint_of (x / 16777216) (x % 16777216)) minus_bits (omega arith) (omega arith) in
        let e : y ≡ crossed = same-two ly few (a ∙ sym c.0) (b ∙ sym c.1) in
        ap (λ (v : ℕ). bit_xor v crossed) e ∙ xor_self crossed

    told-partners : Both q u x → bit_xor y crossed ≡ 0 → Partners u x y
    told-partners w e = let d = xor-none y crossed e in rw d (crossed-is w)

    -- THE SUMS with one pair more
    module _ (s : Sums) where
      pub sums-right : told_by f (sums_with f s x y) ≡ 0 → (told_by f s ≡ 0) × Both q u x × Partners u x y
      sums-right e =
          let r = sums_with f s x y in
          let z = or-none (bit_or r.bad (bit_and r.same f.same)) (bit_and r.fixed f.fixes) e in
          let w = or-none r.bad (bit_and r.same f.same) z.0 in
          let bad = or-none s.bad (bit_xor y crossed) w.0 in
          let same = or-masked s.same (bit_xor x (x / 2)) f.same w.1 in
          let fixed = or-masked s.fixed (bit_xor x f.fixed) f.fixes z.1 in
          let b = masked-both o x same.1 fixed.1 in
          let first = none_or s.bad (bit_and s.same f.same) bad.0 same.0 in
          (none_or (bit_or s.bad (bit_and s.same f.same)) (bit_and s.fixed f.fixes) first fixed.0, b, told-partners b bad.1)

      pub sums_none : told_by f s ≡ 0 → Both q u x → Partners u x y → told_by f (sums_with f s x y) ≡ 0
      sums_none e b p =
          let r = sums_with f s x y in
          let z = or-none (bit_or s.bad (bit_and s.same f.same)) (bit_and s.fixed f.fixes) e in
          let w = or-none s.bad (bit_and s.same f.same) z.0 in
          let m = both-masked o x b in
          none_or (bit_or r.bad (bit_and r.same f.same)) (bit_and r.fixed f.fixes)
          (none_or r.bad (bit_and r.same f.same) (none_or s.bad (bit_xor y crossed) w.0 (partners-told b p))
          (masked-or s.same (bit_xor x (x / 2)) f.same w.1 m.0))
          (masked-or s.fixed (bit_xor x f.fixed) f.fixes z.1 m.1)
