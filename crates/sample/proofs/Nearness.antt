-- The gain of each unit u is the f32 nearest 1 / √u. It is M / 2 ^ k with 2 ^ 23 ≤ M < 2 ^ 24, so an f32 above it is at least (M + 1) / 2 ^ k, and one
-- below it at most (M - 1) / 2 ^ k or less than 2 ^ 23 / 2 ^ k. The two middles are tested by squares, over the table. Assumes nothing.
use Rattle.std.specs.Prelude.{Some}
use mathlib.Core.Path.{◌≡◌, refl, sym, ap, ◌∙◌}
use mathlib.Core.Logic.{◌⊎◌, inl, inr}
use mathlib.Core.Bool.{Bool, true, false, not, ◌&&◌}
use Prim.Native.Nat.{ℕ, zero, suc, ◌+◌, ◌-◌, ◌*◌, ◌/◌, ◌%◌, ◌^◌, ◌≤◌, ◌<◌, max}
use native.Mathlib.Nat.{
  le_trans,
  le_of_eq,
  le_of_lt,
  lt_irrefl,
  lt_of_lt_of_le,
  lt_of_le_of_lt,
  add-mul,
  mul_assoc,
  mul-one,
  add-le-add,
  mul-le-mul_left,
  mul-le-mul_right,
  mul-lt-mul_of_pos_right,
  lt_of_mul-lt-mul_right,
  sub-add_cancel,
}
use native.Mathlib.Omega.{arith}
use lib.Dec.{T, leb, ltb, eqb, leb→le, nleb→lt, ltb→lt, eqb→eq, lit<}
use lib.IntN.{ℤ, pos, negsuc}
use lib.Pow.{pow-add, pow_pos, pow_mono}
use lib.Ieee.{Float, nan, inf, fin, binary32, up, down, fits, to_bits, of_bits}
use lib.Ieee.Exact.{HasValue}
use lib.Ieee.Positive.{positive}
use lib.Ieee.Fits.{and_l, and_r, down_pos}
use Rattle.base.proofs.Computed.{every}
use Rattle.sample.specs.declared.UnitRow.{UnitRow}
use Rattle.sample.specs.Units.{unit_rows, scale_of}
use Rattle.sample.specs.Bound.{NoNearer, Nearest}
use Rattle.sample.proofs.Squares.{square, double, most-by, least_by, same_by, less_by}
use Rattle.sample.proofs.Table.{found}

either : (a b : ℕ) → (a ≤ b) ⊎ (b < a)
either a b = go (leb a b) (leb→le a b) (nleb→lt a b)
  where
    go : (t : Bool) → (T t → a ≤ b) → (T (not t) → b < a) → (a ≤ b) ⊎ (b < a)
    go true h k = inl (h tt)
    go false h k = inr (k tt)

-- ---- a significand of an f32 is below 2 ^ 24
short : (s : Bool) (n : ℕ) (d : ℤ) → T (fits binary32 (fin s n d)) → n < 2 ^ 24
unfolding fits
short s zero d t = lit< tt
short s (suc n) d t =
    let a = eqb (suc n % 2) 1 in
    let b = ltb (suc n) (2 ^ 24) in
    let p = leb (down d) (2 ^ 149) in
    let q = ltb (suc n * up d) (2 ^ 128 * down d) in
    ltb→lt (suc n) (2 ^ 24) (and_r a b (and_l (a && b) p (and_l (a && b && p) q t)))

-- ---- n * 2 ^ d is a whole number of 2 ^ -k, or below 2 ^ 23 of them
abbrev Units : ℕ → ℤ → ℕ → Type 0
Units n d k = ((y : ℕ) × (n * up d * 2 ^ k ≡ y * down d)) ⊎ (n * up d * 2 ^ k < 2 ^ 23 * down d)

units : (n : ℕ) (d : ℤ) (k : ℕ) → n < 2 ^ 24 → Units n d k
units n (pos p) k h = inl (n * 2 ^ p * 2 ^ k, sym (mul-one (n * 2 ^ p * 2 ^ k)))
units n (negsuc p) k h =
    elim (either (suc p) k) [
      | inl l ↦
          let e : 2 ^ k ≡ 2 ^ (k - suc p) * 2 ^ suc p = ap (λ (i : ℕ). 2 ^ i) (sym (sub-add_cancel l)) ∙ pow-add 2 (k - suc p) (suc p) in
          inl (n * 2 ^ (k - suc p), ap (λ (i : ℕ). i * 2 ^ k) (mul-one n) ∙ ap (λ (i : ℕ). n * i) e ∙ sym (mul_assoc n (2 ^ (k - suc p)) (2 ^ suc p)))
      | inr l ↦
          let e : 2 ^ 24 * 2 ^ k ≡ 2 ^ 23 * 2 ^ suc k = sym (pow-add 2 24 k) ∙ ap (λ (i : ℕ). 2 ^ i) (shift k) ∙ pow-add 2 23 (suc k) in
          inr (lt_of_le_of_lt (le_of_eq (ap (λ (i : ℕ). i * 2 ^ k) (mul-one n)))
          (lt_of_lt_of_le (mul-lt-mul_of_pos_right h (pow_pos k)) (le_trans (le_of_eq e) (mul-le-mul_left (2 ^ 23) (pow_mono l)))))
    ]
  where
    shift : (i : ℕ) → 24 + i ≡ 23 + suc i
    shift i = omega arith

-- ---- g = a / P = M / Q, y = b / P
abbrev top : ℕ → ℕ
top M = max (2 * M - 1) (M + 2 ^ 23)

abbrev Split : ℕ → ℕ → ℕ → Type 0
Split b P Q = ((y : ℕ) × (b * Q ≡ y * P)) ⊎ (b * Q < 2 ^ 23 * P)

module _ (M P Q a b : ℕ) (p : 0 < P) (q : 0 < Q) (g : a * Q ≡ M * P) (s : Split b P Q) where
  under : b < a → (a + b) * Q ≤ top M * P
  under l =
      elim s [
        | inl w ↦
            let z : w.0 < M = lt_of_mul-lt-mul_right P (lt_of_le_of_lt (le_of_eq (sym w.1)) (lt_of_lt_of_le (mul-lt-mul_of_pos_right l q) (le_of_eq g))) in
            le_trans (le_of_eq (add-mul a b Q ∙ ap (λ (n : ℕ). n + b * Q) g ∙ ap (λ (n : ℕ). M * P + n) w.1 ∙ sym (add-mul M w.0 P)))
            (mul-le-mul_right P (fits-top w.0 z))
        | inr h ↦
            le_trans (le_of_eq (add-mul a b Q ∙ ap (λ (n : ℕ). n + b * Q) g))
            (le_trans (add-le-add (le_of_eq refl) (le_of_lt h)) (le_trans (le_of_eq (sym (add-mul M (2 ^ 23) P))) (mul-le-mul_right P small)))
      ]
    where
      fits-top : (y : ℕ) → y < M → M + y ≤ top M
      fits-top y h = omega arith

      small : M + 2 ^ 23 ≤ top M
      small = omega arith

  over : 2 ^ 23 ≤ M → a < b → (2 * M + 1) * P ≤ (a + b) * Q
  over n l =
      elim s [
        | inl w ↦
            let z : M < w.0 = lt_of_mul-lt-mul_right P (lt_of_le_of_lt (le_of_eq (sym g)) (lt_of_lt_of_le (mul-lt-mul_of_pos_right l q) (le_of_eq w.1))) in
            le_trans (mul-le-mul_right P (next w.0 z))
            (le_of_eq (sym (add-mul a b Q ∙ ap (λ (n : ℕ). n + b * Q) g ∙ ap (λ (n : ℕ). M * P + n) w.1 ∙ sym (add-mul M w.0 P))))
        | inr h ↦
            absurd (lt_irrefl M (lt_of_lt_of_le (lt_of_mul-lt-mul_right P (lt_of_le_of_lt (le_of_eq (sym g)) (lt_of_lt_of_le (mul-lt-mul_of_pos_right l q) (le_of_lt h)))) n))
      ]
    where
      next : (y : ℕ) → M < y → 2 * M + 1 ≤ M + y
      next y h = omega arith

-- ---- the test, and what it says
abbrev middles : ℕ → ℕ → ℕ → ℕ → ℕ → Bool
middles u M k w d =
    eqb (w * 2 ^ k) (M * d)
    && (leb (2 ^ 23) M
    && (leb (u * (top M * top M)) (4 * (2 ^ k * 2 ^ k))
    && leb (4 * (2 ^ k * 2 ^ k)) (u * ((2 * M + 1) * (2 * M + 1)))))

-- M and k are read off the gain's bit pattern
abbrev central : ℕ → Float → Bool
central u nan = false
central u (inf s) = false
central u (fin true m e) = false
central u (fin false m e) =
    let b = to_bits binary32 (fin false m e) in
    fits binary32 (fin false m e) && (positive (fin false m e) && middles u (2 ^ 23 + b % 2 ^ 23) (150 - b / 2 ^ 23) (m * up e) (down e))

none-nearer :
    (u M k m : ℕ) (e : ℤ) → T (middles u M k (m * up e) (down e)) → (y : Float) → T (fits binary32 y) → (a b t : ℕ) → HasValue (fin false m e) false a (2 ^ t) → HasValue y false b
    (2 ^ t) → NoNearer u a b t
none-nearer u M k m e h nan f a b t v w = absurd w
none-nearer u M k m e h (inf s) f a b t v w = absurd w
none-nearer u M k m e h (fin s n d) f a b t v w =
    let t1 = eqb (m * up e * 2 ^ k) (M * down e) in
    let t2 = leb (2 ^ 23) M in
    let t3 = leb (u * (top M * top M)) (4 * (2 ^ k * 2 ^ k)) in
    let t4 = leb (4 * (2 ^ k * 2 ^ k)) (u * ((2 * M + 1) * (2 * M + 1))) in
    let h2 = and_r t1 (t2 && (t3 && t4)) h in
    let h3 = and_r t2 (t3 && t4) h2 in
    let is = same_by (m * up e) (down e) a (2 ^ t) M (2 ^ k) (down_pos e) v.1 (eqb→eq (m * up e * 2 ^ k) (M * down e) (and_l t1 (t2 && (t3 && t4)) h)) in
    let s = split in
    record {
      below =
          λ l. rw (double t, square (a + b)) (most-by u 4 (a + b) (2 ^ k) (top M) (2 ^ t) (pow_pos k) (under M (2 ^ t) (2 ^ k) a b (pow_pos t) (pow_pos k) is s l)
          (leb→le (u * (top M * top M)) (4 * (2 ^ k * 2 ^ k)) (and_l t3 t4 h3)));
      above =
          λ l. rw (double t, square (a + b)) (least_by u 4 (a + b) (2 ^ k) (2 * M + 1) (2 ^ t) (pow_pos k)
          (over M (2 ^ t) (2 ^ k) a b (pow_pos t) (pow_pos k) is s (leb→le (2 ^ 23) M (and_l t2 (t3 && t4) h2)) l)
          (leb→le (4 * (2 ^ k * 2 ^ k)) (u * ((2 * M + 1) * (2 * M + 1))) (and_r t3 t4 h3)));
    }
  where
    split : Split b (2 ^ t) (2 ^ k)
    split =
        elim (units n d k (short s n d f)) [
          | inl r ↦ inl (r.0, same_by (n * up d) (down d) b (2 ^ t) r.0 (2 ^ k) (down_pos d) w.1 r.1)
          | inr r ↦ inr (less_by (n * up d) (down d) b (2 ^ t) (2 ^ 23) (2 ^ k) (pow_pos t) w.1 r)
        ]

central-at : (u : ℕ) (g : Float) → T (central u g) → Nearest u g
central-at u nan h = absurd h
central-at u (inf s) h = absurd h
central-at u (fin true m e) h = absurd h
central-at u (fin false m e) h =
    let b = to_bits binary32 (fin false m e) in
    let f = fits binary32 (fin false m e) in
    let p = positive (fin false m e) in
    let q = middles u (2 ^ 23 + b % 2 ^ 23) (150 - b / 2 ^ 23) (m * up e) (down e) in
    let k = and_r f (p && q) h in
    record { is-f32 = and_l f (p && q) h; number = and_l p q k; none-nearer = none-nearer u (2 ^ 23 + b % 2 ^ 23) (150 - b / 2 ^ 23) m e (and_r p q k) }

-- ---- the table
passes : T (every (λ r. central r.unit r.gain) unit_rows)
unfolding of_bits to_bits fits
passes = tt

-- THE GAIN: of each row
pub nearest : (b : ℕ) (r : UnitRow) → scale_of b ≡ Some r → Nearest r.unit r.gain
unfolding scale_of
nearest b r e = central-at r.unit r.gain (found (λ r. central r.unit r.gain) unit_rows passes b r e)
