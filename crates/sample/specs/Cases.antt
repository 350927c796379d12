-- For the inner contracts only: the answer by the kinds of units, as the code finds it. proofs/Cases.antt: it is `sample_of` of Answer.
use Rattle.std.specs.Prelude.{ℕ, cond, ◌&&◌, eqb, leb, ℤ, nat_abs, Option, Some, None}
use Rattle.base.specs.Bytes.{signed_of}
use Rattle.sample.specs.declared.UnitRow.{UnitRow}
use Rattle.sample.specs.declared.Sample.{Sample}
use Rattle.sample.specs.declared.Sample.TheVariants.{Silence, Phase, At}
use Rattle.sample.specs.Units.{scale_of}
use Rattle.sample.specs.Answer.{point_of}

abbrev pub silent_of : ℕ → ℕ → Option Sample
silent_of i j = cond (eqb i 0 && eqb j 0) (Some Silence) None

abbrev pub phase_of : ℕ → ℕ → Option Sample
phase_of i j = cond (leb i 62 && eqb j 0) (Some (Phase i)) None

-- a unit of the table, or none: levels I and J up to its limit
abbrev pub scaled_of : Option UnitRow → ℤ → ℤ → Option Sample
scaled_of (Some r) i j = cond (leb (nat_abs i) r.limit && leb (nat_abs j) r.limit) (Some (At (point_of r.gain i j))) None
scaled_of None i j = None

abbrev pub by_unit : ℕ → ℕ → ℕ → Option Sample
by_unit b i j = cond (eqb b 0) (silent_of i j) (cond (eqb b 63) (phase_of i j) (scaled_of (scale_of b) (signed_of i) (signed_of j)))
