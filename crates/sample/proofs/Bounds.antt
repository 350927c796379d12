-- A level is an f32 exactly, and the sample of each level of each unit is within one part in 2 ^ 22 of I / √u: one test that antt computes over the table,
-- and the law that turns it into the bound. Assumes nothing.
use Rattle.std.specs.Prelude.{Some}
use mathlib.Core.Path.{◌≡◌, refl, sym, ap, ◌∙◌}
use mathlib.Core.Bool.{Bool, true, false, ◌&&◌, beq}
use Prim.Native.Nat.{ℕ, suc, ◌+◌, ◌-◌, ◌*◌, ◌^◌, ◌≤◌, ◌<◌, suc-le-suc}
use native.Mathlib.Nat.{le_trans, le_of_eq, mul-one}
use native.Mathlib.Omega.{arith}
use lib.Dec.{T, leb, leb→le}
use lib.IntN.{ℤ, pos, negsuc, nat_abs}
use lib.Ieee.{Float, nan, inf, fin, binary32, up, down, mul, of_int, of_bits}
use lib.Ieee.Exact.{HasValue}
use lib.Ieee.Back.{round_whole}
use lib.Ieee.Fits.{and_l, and_r, down_pos}
use mir.Syntax.{w8}
use mir.Val.{SFits}
use Rattle.base.specs.Signs.{negative}
use Rattle.base.proofs.Computed.{all_below, below_at, every}
use Rattle.base.proofs.Fits.{abs8}
use Rattle.sample.specs.declared.UnitRow.{UnitRow}
use Rattle.sample.specs.Units.{unit_rows, scale_of}
use Rattle.sample.specs.Answer.{part_of}
use Rattle.sample.specs.Bound.{WithinBound, Close}
use Rattle.sample.specs.Promise.{Exact, Product}
use Rattle.sample.proofs.Squares.{square, double, most-by, least_by}
use Rattle.sample.proofs.Table.{found}

-- ---- a level is an f32 exactly
whole : (z : ℤ) → nat_abs z ≤ 2 ^ 24 → Exact z
unfolding of_int
whole (pos n) h = round_whole binary32 false n h
whole (negsuc n) h = round_whole binary32 true (suc n) h

pub exactly : (z : ℤ) → SFits w8 z → Exact z
exactly z f = whole z (omega (arith, abs8 z f))

-- ---- the test of one sample, w / d in size, and what it says
abbrev low : ℤ → ℕ
low z = (2 ^ 22 - 1) ^ 2 * nat_abs z ^ 2

abbrev high : ℤ → ℕ
high z = (2 ^ 22 + 1) ^ 2 * nat_abs z ^ 2

abbrev sized : ℕ → ℤ → ℕ → ℕ → Bool
sized u z w d = leb (low z * (d * d)) (2 ^ 44 * u * (w * w)) && leb (2 ^ 44 * u * (w * w)) (high z * (d * d))

abbrev close : ℕ → ℤ → Float → Bool
close u z nan = false
close u z (inf s) = false
close u z (fin s m e) = beq s (negative z) && sized u z (m * up e) (down e)

same : (a b : Bool) → T (beq a b) → a ≡ b
same true true t = refl
same true false t = absurd t
same false true t = absurd t
same false false t = refl

within : (u : ℕ) (z : ℤ) (s : Bool) (w d a t : ℕ) → 0 < d → s ≡ negative z → T (sized u z w d) → w * 2 ^ t ≡ a * d → WithinBound u z s a t
within u z s w d a t p e h v =
    let l = leb (low z * (d * d)) (2 ^ 44 * u * (w * w)) in
    let m = leb (2 ^ 44 * u * (w * w)) (high z * (d * d)) in
    record {
      sign = e;
      least = rw (double t, square a) (least_by (2 ^ 44 * u) (low z) a d w (2 ^ t) p (le_of_eq v) (leb→le (low z * (d * d)) (2 ^ 44 * u * (w * w)) (and_l l m h)));
      most = rw (double t, square a) (most-by (2 ^ 44 * u) (high z) a d w (2 ^ t) p (le_of_eq (sym v)) (leb→le (2 ^ 44 * u * (w * w)) (high z * (d * d)) (and_r l m h)));
    }

written : (s : Bool) (m : ℕ) (e : ℤ) → (r : Bool) × (a : ℕ) × (t : ℕ) × HasValue (fin s m e) r a (2 ^ t)
written s m (pos k) = (s, m * 2 ^ k, 0, (refl, refl))
written s m (negsuc k) = (s, m, suc k, (refl, ap (λ (n : ℕ). n * 2 ^ suc k) (mul-one m)))

closed : (u : ℕ) (z : ℤ) (x : Float) → T (close u z x) → Close u z x
closed u z nan h = absurd h
closed u z (inf s) h = absurd h
closed u z (fin s m e) h =
    let b = beq s (negative z) in
    let q = sized u z (m * up e) (down e) in
    record {
      written = written s m e;
      within = λ r a t v. within u z r (m * up e) (down e) a t (down_pos e) (sym v.0 ∙ same s (negative z) (and_l b q h)) (and_r b q h) v.1;
    }

-- ---- each level of a row, 0 or above and below 0
abbrev above : UnitRow → ℕ → Bool
above r n = close r.unit (pos n) (part_of r.gain (pos n))

abbrev under : UnitRow → ℕ → Bool
under r n = close r.unit (negsuc n) (part_of r.gain (negsuc n))

abbrev levels : UnitRow → Bool
levels r = all_below (above r) (suc r.limit) && all_below (under r) r.limit

levels-at : (r : UnitRow) → T (levels r) → (z : ℤ) → nat_abs z ≤ r.limit → T (close r.unit z (part_of r.gain z))
levels-at r t (pos n) h =
    below_at (above r) (suc r.limit) (and_l (all_below (above r) (suc r.limit)) (all_below (under r) r.limit) t) n (suc-le-suc h)
levels-at r t (negsuc n) h =
    below_at (under r) r.limit (and_r (all_below (above r) (suc r.limit)) (all_below (under r) r.limit) t) n h

-- ---- the table
passes : T (every levels unit_rows)
unfolding mul of_int of_bits
passes = tt

-- the limit of a row is a whole number that an f32 holds
abbrev limited : UnitRow → Bool
limited r = leb r.limit (2 ^ 24)

-- THE SAMPLE of each level z up to the limit of its unit's row
pub sample-of : (b : ℕ) (r : UnitRow) (z : ℤ) → scale_of b ≡ Some r → nat_abs z ≤ r.limit → Product r.unit r.gain z (part_of r.gain z)
unfolding scale_of
sample-of b r z e h =
    record {
      exact = whole z (le_trans h (leb→le r.limit (2 ^ 24) (found limited unit_rows tt b r e)));
      product = refl;
      bound = closed r.unit z (part_of r.gain z) (levels-at r (found levels unit_rows passes b r e) z h);
    }
