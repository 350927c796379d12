-- What the promises cite: the promise of the public call, `sample_at` here and in `mapper`. Quoted words are document 01's, under Samples.
use Rattle.std.specs.Prelude.{ℕ, ◌≡◌, ℤ, nat_abs, Float, Option, Some}
use Rattle.std.specs.Float.{binary32}
use Rattle.std.specs.Float.Ieee.{of_int}
use Rattle.std.specs.Float.Ieee.Exact.{HasValue}
use Rattle.base.specs.Bytes.{signed_of}
use Rattle.base.specs.Signs.{negative}
use Rattle.sample.specs.declared.Sample.{Sample}
use Rattle.sample.specs.declared.Point.{Point}
use Rattle.sample.specs.declared.UnitRow.{UnitRow}
use Rattle.sample.specs.declared.Sample.TheVariants.{At}
use Rattle.sample.specs.Units.{scale_of}
use Rattle.sample.specs.Answer.{part_of, sample_of}
use Rattle.sample.specs.Bound.{Close, Nearest}

-- "A level becomes f32 exactly": the f32 of the whole number z has its sign and its size
abbrev pub Exact : ℤ → Type 0
Exact z = HasValue (of_int binary32 z) (negative z) (nat_abs z) 1

-- x is the sample of the level z: "A level becomes f32 exactly, times a gain, rounded once", and within the bound of z / √u
pub record Product (u : ℕ) (gain : Float) (z : ℤ) (x : Float) : Type 0 where
  pub exact : Exact z
  pub product : x ≡ part_of gain z
  pub bound : Close u z x

-- x and y are the samples of the levels I and J of a byte's unit u: "the gain is the f32 nearest 1/√u, shown by whole-number squares"
pub record Levelled (b : ℕ) (i j : ℤ) (x y : Float) : Type 0 where
  pub row : UnitRow
  pub known : scale_of b ≡ Some row
  pub nearest : Nearest row.unit row.gain
  pub re : Product row.unit row.gain i x
  pub im : Product row.unit row.gain j y

-- The answer is `sample_of`'s, and a pair of f32 is always such a pair of products.
pub record Sampled (b i j : ℕ) (r : Option Sample) : Type 0 where
  pub answer : r ≡ sample_of b i j
  pub pair : (p : Point) → r ≡ Some (At p) → Levelled b (signed_of i) (signed_of j) p.re p.im
