-- The answer by the kinds of units, as the code finds it, is the answer: refusal 9 phrase by phrase, else what the element means. Assumes nothing.
use Rattle.std.specs.Prelude.{Option, Some, None}
use mathlib.Core.Path.{◌≡◌, refl, sym, subst}
use mathlib.Core.Bool.{Bool, true, false, not, cond, ◌&&◌, ◌||◌, or-false}
use Prim.Native.Nat.{ℕ}
use borrow.Author.Tests.{eqb-true}
use lib.Dec.{leb, eqb}
use lib.IntN.{ℤ, nat_abs}
use Rattle.base.specs.Bytes.{signed_of}
use Rattle.sample.specs.declared.UnitRow.{UnitRow}
use Rattle.sample.specs.declared.Sample.{Sample}
use Rattle.sample.specs.declared.Sample.TheVariants.{Silence, Phase, At}
use Rattle.sample.specs.Units.{scale_of, gain_of}
use Rattle.sample.specs.Refusal.{has_levels, beyond, no_element}
use Rattle.sample.specs.Answer.{point_of, sample_of}
use Rattle.sample.specs.Cases.{scaled_of, by_unit}

-- each kind of unit has a test and a meaning; refused is where the test fails
tested : (t n : Bool) (s : Sample) → n ≡ not t → cond t (Some s) None ≡ cond n None (Some s)
tested true n s e = rw e refl
tested false n s e = rw e refl

either-not : (p q : Bool) → (not p || not q) ≡ not (p && q)
either-not true q = refl
either-not false q = refl

silent : (i j : ℕ) → by_unit 0 i j ≡ sample_of 0 i j
unfolding scale_of
silent i j = tested (eqb i 0 && eqb j 0) (no_element 0 i j) Silence (simp or-false)

phase : (i j : ℕ) → by_unit 63 i j ≡ sample_of 63 i j
unfolding scale_of
phase i j = tested (leb i 62 && eqb j 0) (no_element 63 i j) (Phase i) (simp (or-false, either-not))

levels : (s : Option UnitRow) (i j : ℤ) → scaled_of s i j ≡ cond (not (has_levels s) || (beyond s i || beyond s j)) None (Some (At (point_of (gain_of s) i j)))
levels (Some r) i j =
    let m = leb (nat_abs i) r.limit in
    let n = leb (nat_abs j) r.limit in
    tested (m && n) (not m || not n) (At (point_of r.gain i j)) (either-not m n)
levels None i j = refl

-- THE LAW
pub by-unit : (b i j : ℕ) → by_unit b i j ≡ sample_of b i j
by-unit b i j = pick (eqb b 0) (eqb b 63) refl refl
  where
    pick : (s p : Bool) → eqb b 0 ≡ s → eqb b 63 ≡ p → by_unit b i j ≡ sample_of b i j
    pick true p e f = subst (λ (n : ℕ). by_unit n i j ≡ sample_of n i j) (sym (eqb-true b 0 e)) (silent i j)
    pick false true e f = subst (λ (n : ℕ). by_unit n i j ≡ sample_of n i j) (sym (eqb-true b 63 f)) (phase i j)
    pick false false e f = simp (e, f, or-false) (levels (scale_of b) (signed_of i) (signed_of j))
