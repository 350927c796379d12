-- What the promises cite: the sample of an element's three bytes, a unit's, I and J. Quoted words are document 01's, under the heading named.
use Rattle.std.specs.Prelude.{ℕ, cond, eqb, ℤ, Float, Option, Some, None}
use Rattle.std.specs.Float.{binary32}
use Rattle.std.specs.Float.Ieee.{mul, of_int}
use Rattle.base.specs.Bytes.{signed_of}
use Rattle.sample.specs.declared.Point.{Point}
use Rattle.sample.specs.declared.Sample.{Sample}
use Rattle.sample.specs.declared.Sample.TheVariants.{Silence, Phase, At}
use Rattle.sample.specs.Units.{scale_of, gain_of}
use Rattle.sample.specs.Refusal.{no_element}

-- Samples: "A level becomes f32 exactly, times a gain, rounded once"; `mul` rounds, and `Exact` of Promise says that `of_int` does not
abbrev pub part_of : Float → ℤ → Float
part_of gain z = mul binary32 (of_int binary32 z) gain

-- Grid: "meaning (I + jJ)/√u"
abbrev pub point_of : Float → ℤ → ℤ → Point
point_of gain i j = record { re = part_of gain i; im = part_of gain j }

-- what an element means. Grid: "0 is silent", "Unit 63 means phase −2πI/63"; a pair of zeros of another unit is a pair, and not silence
abbrev pub meaning_of : ℕ → ℕ → ℕ → Sample
meaning_of b i j = cond (eqb b 0) Silence (cond (eqb b 63) (Phase i) (At (point_of (gain_of (scale_of b)) (signed_of i) (signed_of j))))

-- THE ANSWER for any three bytes. `None` is document 01's refusal 9
abbrev pub sample_of : ℕ → ℕ → ℕ → Option Sample
sample_of b i j = cond (no_element b i j) None (Some (meaning_of b i j))
