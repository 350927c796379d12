-- The subcarriers of six that have no reference signal, as the bits of a number; and the half blocks of the centre.
-- Assumes a slot of six symbols or more.
use Prim.Native.Nat.{ℕ, zero, suc, ◌+◌, ◌-◌, ◌*◌, ◌/◌, ◌%◌, ◌^◌, ◌≤◌, ◌<◌}
use mathlib.Core.Path.{◌≡◌, refl, sym, ap, ap₂, ◌∙◌}
use mathlib.Core.Bool.{Bool, true, false, not, cond, ◌&&◌, ◌||◌, and_assoc, and-false, and-true}
use native.Mathlib.Nat.{div-le_self}
use native.Mathlib.Decide.{dec_le, ℕ_discrete}
use native.Mathlib.Omega.{arith}
use lib.Dec.{leb, ltb, eqb, eqb→eq, T}
use borrow.Author.Tests.{le-leb, lt-leb, lt-ltb, le-ltb, leb-true}
use Rattle.base.proofs.Computed.{all_below, below_at}
use Rattle.plan.specs.declared.Cell.{Cell}
use Rattle.plan.specs.declared.Frame.{Frame}
use Rattle.base.specs.Choice.{indicator}
use Rattle.layout.specs.Rules.{in_sync_area, crs_symbol, slot_length, marked, middle, in_pbch_area}
use Rattle.counts.specs.Users.{taken as taken_row}
use Rattle.places.specs.Halves.{without, taken_half}
use Rattle.layout.proofs.Pilot.{crs_first, hits, first-pair, second-pair, no-pair}
use Rattle.walk.specs.Forms.{PairForm, all-six, pairs-left, pairs-right, pairs-apart, SingleForm, paired, hole-0, hole-1, hole-2, hole-3, hole-4, hole-5}
use Rattle.areas.specs.declared.Area.{Area}
use Rattle.areas.specs.Masks.{bit_if, mask_but, Masks, centre_out, leaves_row}
use Rattle.areas.proofs.AreaPlaces.{leb-same, left_out}

abbrev bit_of : ℕ → ℕ → Bool
bit_of mask r = eqb (mask / 2 ^ r % 2) 1

pub bit-most : (t : Bool) (v : ℕ) → bit_if t v ≤ 32
unfolding bit_if
bit-most true v = omega (arith, div-le_self 32 (2 ^ (5 - v)))
bit-most false v = omega arith

-- ---- one signal or two
one_same : (x y : Bool) → indicator x ≡ indicator y → x ≡ y
one_same true true e = refl
one_same false false e = refl
one_same true false e = absurd (omega arith)
one_same false true e = absurd (omega arith)

abbrev but_test : ℕ → Bool → Bool → ℕ → Bool
but_test v a b r = not (hits a b v (r % 6))

abbrev Right : Bool → Bool → ℕ → Bool
Right a b v = all_below (λ (r : ℕ). eqb (indicator (bit_of (63 - cond a (32 / 2 ^ (5 - v)) 0 - cond b (32 / 2 ^ (5 - (v + 3) % 6)) 0) r)) (indicator (but_test v a b r))) 6

right : (a b : Bool) → T (all_below (Right a b) 6)
right true true = tt
right true false = tt
right false true = tt
right false false = tt

pub but-bits : (v : ℕ) → v < 6 → (a b : Bool) (r : ℕ) → r < 6 → bit_of (mask_but v a b) r ≡ but_test v a b r
unfolding mask_but bit_if
but-bits v h a b r l =
    one_same (bit_of (mask_but v a b) r) (but_test v a b r)
    (eqb→eq _ _ (below_at (λ (r : ℕ). eqb (indicator (bit_of (63 - cond a (32 / 2 ^ (5 - v)) 0 - cond b (32 / 2 ^ (5 - (v + 3) % 6)) 0) r)) (indicator (but_test v a b r))) 6
    (below_at (Right a b) 6 (right a b) v h) r l))

-- ---- the form of a mask with the holes of two ports, of the first only, or of none
hole-first : (v : ℕ) → v < 6 → SingleForm (mask_but v true false)
unfolding mask_but bit_if
hole-first zero h = hole-0
hole-first (suc zero) h = hole-1
hole-first (suc (suc zero)) h = hole-2
hole-first (suc (suc (suc zero))) h = hole-3
hole-first (suc (suc (suc (suc zero)))) h = hole-4
hole-first (suc (suc (suc (suc (suc zero))))) h = hole-5
hole-first (suc (suc (suc (suc (suc (suc v)))))) h = absurd (omega arith)

holes-both : (v : ℕ) → v < 6 → PairForm (mask_but v true true)
unfolding mask_but bit_if
holes-both zero h = pairs-right
holes-both (suc zero) h = pairs-apart
holes-both (suc (suc zero)) h = pairs-left
holes-both (suc (suc (suc zero))) h = pairs-right
holes-both (suc (suc (suc (suc zero)))) h = pairs-apart
holes-both (suc (suc (suc (suc (suc zero))))) h = pairs-left
holes-both (suc (suc (suc (suc (suc (suc v)))))) h = absurd (omega arith)

module _ (v x P : ℕ) (h : v < 6) where
  abbrev ports_mask : ℕ
  ports_mask = mask_but v (ltb x P) (ltb (suc x) P)

  neither-port : P ≤ x → PairForm ports_mask
  unfolding mask_but bit_if
  neither-port l = rw (le-ltb x P l, le-ltb (suc x) P (omega arith)) all-six

  both-ports : suc x < P → PairForm ports_mask
  both-ports l = rw (lt-ltb x P (omega arith), lt-ltb (suc x) P l) (holes-both v h)

  first-port : P ≡ suc x → SingleForm ports_mask
  first-port e = rw (lt-ltb x P (omega arith), le-ltb (suc x) P (omega arith)) (hole-first v h)

  form-pairs : (P ≡ suc x → ⊥) → PairForm ports_mask
  form-pairs n = pick (dec_le P x)
    where
      pick : Dec (P ≤ x) → PairForm ports_mask
      pick (yes l) = neither-port l
      pick (no l) = both-ports (omega arith)

  form-single : SingleForm ports_mask
  form-single = pick (ℕ_discrete P (suc x))
    where
      pick : Dec (P ≡ suc x) → SingleForm ports_mask
      pick (yes e) = first-port e
      pick (no n) = paired (form-pairs n)

-- ---- a row's mask
module _ (c : Cell) (P s : ℕ) where
  -- by the tests of its six bits
  but-mask :
      (v x : ℕ) → v < 6 → (2 ≤ P → (P ≡ 3 → ⊥) → P ≡ suc x → ⊥)
      → ((r : ℕ) → without c P s r ≡ but_test v (ltb x P) (ltb (suc x) P) r) → Masks c P s (mask_but v (ltb x P) (ltb (suc x) P))
  but-mask v x h ports e =
      record {
        bits = λ r k. but-bits v h (ltb x P) (ltb (suc x) P) r k ∙ sym (e r);
        single = form-single v x P h;
        pairs = λ m n. form-pairs v x P h (ports m n);
      }

  pub mask_first : crs_symbol c 0 s ≡ true → Masks c P s (mask_but (crs_first c 0 s) (ltb 0 P) (ltb 1 P))
  unfolding without
  mask_first e = but-mask (crs_first c 0 s) 0 (omega arith) (λ m n q. omega arith) (λ r. ap not (first-pair c s P r e))

  pub mask-second : crs_symbol c 2 s ≡ true → Masks c P s (mask_but (crs_first c 2 s) (ltb 2 P) (ltb 3 P))
  unfolding without
  mask-second e = but-mask (crs_first c 2 s) 2 (omega arith) (λ m n. n) (λ r. ap not (second-pair c s P r e))

  pub mask-none : crs_symbol c 0 s ≡ false → crs_symbol c 2 s ≡ false → Masks c P s 63
  unfolding without
  mask-none e d =
      record {
        bits = λ r h. full r h ∙ sym (ap not (no-pair c s P r e d));
        single = paired all-six;
        pairs = λ m n. all-six;
      }
    where
      full : (r : ℕ) → r < 6 → bit_of 63 r ≡ true
      full r h = one_same (bit_of 63 r) true (eqb→eq _ _ (below_at (λ (r : ℕ). eqb (indicator (bit_of 63 r)) 1) 6 tt r h))

-- ---- the centre's half blocks
joined : (m x z p q c : Bool) → m && x && c || z && p && q && c ≡ (m && x || z && p && q) && c
joined m x z p q true = ap₂ ◌||◌ (and-true (m && x)) (and-true (z && p && q)) ∙ sym (and-true (m && x || z && p && q))
joined m x z p q false = ap₂ ◌||◌ (and-false (m && x)) (and-false (z && p && q)) ∙ sym (and-false (m && x || z && p && q))

pub taken-centre : (c : Cell) (f : Frame) (s b : ℕ) → taken_half c f s b ≡ centre_out c.blocks (taken_row c f s) b
unfolding taken_half in_sync_area in_pbch_area middle taken_row centre_out
taken-centre c f s b =
    joined (marked f) (eqb (s + 1) (slot_length c) || eqb (s + 2) (slot_length c)) (eqb f.subframe 0) (leb (slot_length c) s) (ltb s (slot_length c + 4))
    (leb (6 * c.blocks) (6 * b + 36) && ltb (6 * b) (6 * c.blocks + 36))
    ∙ ap (λ (x : Bool). taken_row c f s && x)
    (ap₂ ◌&&◌
    (leb-same (6 * c.blocks) (6 * b + 36) c.blocks (b + 6) (λ h. omega arith) (λ h. omega arith))
    (leb-same (suc (6 * b)) (6 * c.blocks + 36) (suc b) (c.blocks + 6) (λ h. omega arith) (λ h. omega arith)))

-- ---- as the code finds them
pub bit-named : (t : Bool) (v : ℕ) → t ≡ true → 32 / 2 ^ (5 - v) ≡ bit_if t v
unfolding bit_if
bit-named t v e = rw e refl

pub bit_not : (t : Bool) (v : ℕ) → t ≡ false → 0 ≡ bit_if t v
unfolding bit_if
bit_not t v e = rw e refl

module _ (v x y : ℕ) (a b : Bool) (e : x ≡ bit_if a v) (d : y ≡ bit_if b ((v + 3) % 6)) where
  pub bits-room : v < 6 → x + y ≤ 63
  unfolding bit_if
  bits-room h =
      let both : 32 / 2 ^ (5 - v) + 32 / 2 ^ (5 - (v + 3) % 6) ≤ 63 =
      leb-true (32 / 2 ^ (5 - v) + 32 / 2 ^ (5 - (v + 3) % 6)) 63 (told (leb (32 / 2 ^ (5 - v) + 32 / 2 ^ (5 - (v + 3) % 6)) 63)
      (below_at (λ (v : ℕ). leb (32 / 2 ^ (5 - v) + 32 / 2 ^ (5 - (v + 3) % 6)) 63) 6 tt v h)) in
      omega (arith, at_most a (32 / 2 ^ (5 - v)), at_most b (32 / 2 ^ (5 - (v + 3) % 6)))
    where
      at_most : (t : Bool) (n : ℕ) → cond t n 0 ≤ n
      at_most true n = omega arith
      at_most false n = omega arith

      told : (t : Bool) → T t → t ≡ true
      told true h = refl
      told false h = absurd h

  pub mask_is : 63 - x - y ≡ mask_but v a b
  unfolding mask_but
  mask_is = rw (e, d) refl

module _ (N b : ℕ) (out : Bool) where
  pub centre-high : out ≡ true → N ≤ b + 6 → ltb b (N + 6) ≡ centre_out N out b
  unfolding centre_out
  centre-high e h = rw (e, le-leb N (b + 6) h) refl

  pub centre-low : b + 6 < N → false ≡ centre_out N out b
  unfolding centre_out
  centre-low h = rw (lt-leb N (b + 6) h) (sym (and-false out))

  pub centre-in : out ≡ false → false ≡ centre_out N out b
  unfolding centre_out
  centre-in e = rw e refl

-- ---- a half block that an area leaves out
pub left_out_lem : (a : Area) (s b : ℕ) (out : Bool) → out ≡ leaves_row a s → left_out a s b ≡ centre_out a.cell.blocks out b
unfolding centre_out
left_out_lem a s b out e =
    ap (λ (x : Bool). a.leaves && x) (taken-centre a.cell a.frame s b)
    ∙ sym (and_assoc a.leaves (taken_row a.cell a.frame s) (leb a.cell.blocks (b + 6) && ltb b (a.cell.blocks + 6)))
    ∙ ap (λ (x : Bool). x && (leb a.cell.blocks (b + 6) && ltb b (a.cell.blocks + 6))) (sym e)
