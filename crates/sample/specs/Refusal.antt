-- What the promises cite: refusal 9, phrase by phrase. Quoted words are document 01's, under Refusals. b, i and j are the bytes: a unit's, I and J.
use Rattle.std.specs.Prelude.{ℕ, Bool, true, false, not, ◌&&◌, ◌||◌, eqb, leb, ℤ, nat_abs, Option, Some, None}
use Rattle.base.specs.Bytes.{signed_of}
use Rattle.sample.specs.declared.UnitRow.{UnitRow}
use Rattle.sample.specs.Units.{scale_of}

-- whether a byte names a unit of levels, and whether a level is beyond that unit's limit
abbrev pub has_levels : Option UnitRow → Bool
has_levels (Some r) = true
has_levels None = false

abbrev pub beyond : Option UnitRow → ℤ → Bool
beyond (Some r) z = not (leb (nat_abs z) r.limit)
beyond None z = false

-- "9 (sample call only) three bytes that are no element:"
abbrev pub no_element : ℕ → ℕ → ℕ → Bool
no_element b i j =
    -- "other unit"
    not (eqb b 0 || eqb b 63 || has_levels (scale_of b))
    -- "silent with a value"
    || (eqb b 0 && not (eqb i 0 && eqb j 0))
    -- "phase outside 0..62 or J ≠ 0"; a byte above 127 is a negative I
    || (eqb b 63 && (not (leb i 62) || not (eqb j 0)))
    -- "or a level beyond ±8", and "±15" (document 02, #109): the table says which
    || (beyond (scale_of b) (signed_of i) || beyond (scale_of b) (signed_of j))
