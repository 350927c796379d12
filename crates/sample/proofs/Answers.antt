-- What the answer for three bytes is worth: each f32 of a pair is a level, exact, times the gain nearest 1 / √u. Assumes nothing.
use Rattle.std.specs.Prelude.{Option, Some, None}
use mathlib.Core.Path.{◌≡◌, refl, sym, ◌∙◌, subst}
use mathlib.Core.Bool.{Bool, true, false, cond, ◌&&◌}
use Prim.Native.Nat.{ℕ}
use native.Mathlib.Omega.{arith}
use lib.Dec.{T, leb, eqb, leb→le}
use lib.IntN.{ℤ, nat_abs}
use lib.Ieee.Fits.{and_l, and_r}
use Rattle.base.specs.Bytes.{signed_of}
use Rattle.sample.specs.declared.UnitRow.{UnitRow}
use Rattle.sample.specs.declared.Point.{Point}
use Rattle.sample.specs.declared.Sample.{Sample}
use Rattle.sample.specs.declared.Sample.TheVariants.{Silence, Phase, At}
use Rattle.sample.specs.Units.{scale_of}
use Rattle.sample.specs.Answer.{point_of}
use Rattle.sample.specs.Cases.{silent_of, phase_of, scaled_of, by_unit}
use Rattle.sample.specs.Promise.{Levelled, Sampled}
use Rattle.sample.proofs.Cases.{by-unit}
use Rattle.sample.proofs.Bounds.{sample-of}
use Rattle.sample.proofs.Nearness.{nearest}

-- i and j are the levels
abbrev Pair : ℕ → ℤ → ℤ → Option Sample → Type 0
Pair b i j a = (p : Point) → a ≡ Some (At p) → Levelled b i j p.re p.im

module _ (b : ℕ) (i j : ℤ) where
  refused : Pair b i j None
  refused p e = let z : ◌≡◌ {A = ℕ} 0 1 = cc in absurd (omega arith)

  tested : (t : Bool) (s : Sample) → (T t → Pair b i j (Some s)) → Pair b i j (cond t (Some s) None)
  tested true s f = f tt
  tested false s f = refused

  scaled : (s : Option UnitRow) → scale_of b ≡ s → Pair b i j (scaled_of s i j)
  scaled None e = refused
  scaled (Some r) e =
      let m = leb (nat_abs i) r.limit in
      let n = leb (nat_abs j) r.limit in
      tested (m && n) (At (point_of r.gain i j))
      (λ t p f.
      let same : point_of r.gain i j ≡ p = cc in
      subst (λ (q : Point). Levelled b i j q.re q.im) same
      (record {
        row = r;
        known = e;
        nearest = nearest b r e;
        re = sample-of b r i e (leb→le (nat_abs i) r.limit (and_l m n t));
        im = sample-of b r j e (leb→le (nat_abs j) r.limit (and_r m n t));
      }))

pairs : (b i j : ℕ) → Pair b (signed_of i) (signed_of j) (by_unit b i j)
pairs b i j = pick (eqb b 0) (eqb b 63)
  where
    pick : (s p : Bool) → Pair b (signed_of i) (signed_of j) (cond s (silent_of i j) (cond p (phase_of i j) (scaled_of (scale_of b) (signed_of i) (signed_of j))))
    pick true p = tested b (signed_of i) (signed_of j) (eqb i 0 && eqb j 0) Silence (λ _ q e. let z : ◌≡◌ {A = ℕ} 0 1 = cc in absurd (omega arith))
    pick false true = tested b (signed_of i) (signed_of j) (leb i 62 && eqb j 0) (Phase i) (λ _ q e. let z : ◌≡◌ {A = ℕ} 0 1 = cc in absurd (omega arith))
    pick false false = scaled b (signed_of i) (signed_of j) (scale_of b) refl

-- WHAT `sample_at` PROMISES follows from the answer by the kinds of units
pub sampled : (b i j : ℕ) (r : Option Sample) → r ≡ by_unit b i j → Sampled b i j r
sampled b i j r e = record { answer = e ∙ by-unit b i j; pair = λ p h. pairs b i j p (sym e ∙ h) }
